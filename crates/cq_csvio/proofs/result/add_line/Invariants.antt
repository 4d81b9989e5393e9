use Rattle.std.proofs.Common.{[], ℕ, List, map, take}
use Rattle.cq_csvio.specs.Lines.{Holds}
use Rattle.cq_csvio.proofs.result.add_line.Given as goal

-- the fields so far stand in the line
abbrev pub invariant-loop-field : goal.invariant-loop-field
invariant-loop-field g l =
    (text : List ℕ) → Holds l.fn.lines.writer text [] → Holds l.lines.writer text (map g.F.Field.text (take l.field-index l.fields))
