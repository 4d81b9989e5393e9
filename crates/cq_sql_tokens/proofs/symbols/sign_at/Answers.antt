use Rattle.std.proofs.Common.{ap, sym, ◌∙◌}
use Rattle.cq_sql_tokens.specs.Lexing.{symbol_at}
use Rattle.cq_sql_tokens.proofs.Signs.{after_sign}
use Rattle.cq_sql_tokens.proofs.symbols.sign_at.Goals as goal

pub range_from-requires : goal.range_from-requires
range_from-requires c =
    λ _. after_sign c.args.text.now c.in-Some.symbol c.in-Some.len c.utf8.text (ap symbol_at (sym c.as_bytes.ensures.value) ∙ sym c.symbol_at.ensures ∙ c.in-Some.is)
