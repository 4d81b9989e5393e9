use Rattle.std.proofs.Common.{[], ℕ, List, map, take}
use Rattle.cq_values.specs.Printed.{value_text}
use Rattle.cq_csvio.specs.Lines.{Holds}
use Rattle.cq_csvio.proofs.result.add_row.Given as goal

-- the values so far stand in the line
abbrev pub invariant-loop-at : goal.invariant-loop-at
invariant-loop-at l =
    (text : List ℕ) → Holds l.fn.lines.writer text [] → Holds l.lines.writer text (map value_text (take l.at l.row))
