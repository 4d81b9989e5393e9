use Rattle.std.proofs.Common.{arith}
use Rattle.cq_sql_tokens.proofs.Boundaries.{after_first}
use Rattle.cq_sql_tokens.proofs.reading.after_space.Goals as goal

pub range_from-requires : goal.range_from-requires
range_from-requires c =
    λ _. after_first c.args.text.now c.as_bytes.result.now c.as_bytes.ensures.value c.utf8.text c.in-32.len_at_least (omega (arith, c.in-32))
