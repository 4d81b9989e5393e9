use Rattle.std.proofs.Common.{arith}
use Rattle.cq_sql_tokens.proofs.Boundaries.{after_first}
use Rattle.cq_sql_tokens.proofs.reading.lone_sign_at.Goals as goal

pub range_from-requires : goal.range_from-requires
range_from-requires c =
    λ _. after_first c.args.text.now c.as_bytes.result.now c.as_bytes.ensures.value c.utf8.text c.in-44.len_at_least (omega (arith, c.in-44))

pub range_from-requires-in-40 : goal.range_from-requires-in-40
range_from-requires-in-40 c =
    λ _. after_first c.args.text.now c.as_bytes.result.now c.as_bytes.ensures.value c.utf8.text c.in-40.len_at_least (omega (arith, c.in-40))

pub range_from-requires-in-41 : goal.range_from-requires-in-41
range_from-requires-in-41 c =
    λ _. after_first c.args.text.now c.as_bytes.result.now c.as_bytes.ensures.value c.utf8.text c.in-41.len_at_least (omega (arith, c.in-41))
