use Rattle.std.proofs.Common.{◌==◌, not, ap, sym, ◌∙◌}
use Rattle.std.specs.List.{prefix_len}
use Rattle.cq_sql_tokens.proofs.Boundaries.{after_first, before_stop, blank_is_ascii, line_end_is_ascii}
use Rattle.cq_sql_tokens.proofs.reading.gap_at.Goals as goal

pub range_from-requires : goal.range_from-requires
range_from-requires c =
    λ _. after_first c.args.text.now c.as_bytes.result.now c.as_bytes.ensures.value c.utf8.text c.in-len1-up.len_at_least (blank_is_ascii _ (sym c.is_blank.ensures ∙ c.if-is_blank.true))

pub range_from-requires-in-45 : goal.range_from-requires-in-45
range_from-requires-in-45 c =
    λ _. before_stop (λ b. not (b == 10)) c.args.text.now c.line_len.result line_end_is_ascii (c.line_len.ensures ∙ ap (prefix_len (λ b. not (b == 10))) c.as_bytes-in-45.ensures.value)
