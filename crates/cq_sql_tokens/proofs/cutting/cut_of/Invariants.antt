use Rattle.std.proofs.Common.{◌≡◌, ◌+◌, ◌&&◌, drop}
use Rattle.cq_sql_tokens.specs.declared.cutting.Context.TheVariants.{Outside}
use Rattle.cq_sql_tokens.specs.Cutting.{cut_end, cut_blank}
use Rattle.cq_sql_tokens.proofs.cutting.cut_of.Given as goal

-- the rest ends the piece where the whole does, and is blank where the whole is
abbrev pub invariant-loop-i : goal.invariant-loop-i
invariant-loop-i l =
    (l.i + cut_end l.context (drop l.i l.bytes) ≡ cut_end Outside l.bytes) × ((l.blank && cut_blank l.context (drop l.i l.bytes)) ≡ cut_blank Outside l.bytes)
