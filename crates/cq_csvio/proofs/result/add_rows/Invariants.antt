use Rattle.std.proofs.Common.{◌++◌, [], ℕ, List, take}
use Rattle.std.specs.List.{flat_map}
use Rattle.cq_values.specs.Printed.{row_text}
use Rattle.cq_csvio.specs.Lines.{Holds}
use Rattle.cq_csvio.proofs.result.add_rows.Given as goal

-- the rows so far stand, each as its line
abbrev pub invariant-loop-place : goal.invariant-loop-place
invariant-loop-place l =
    (text : List ℕ) → Holds l.fn.lines.writer text [] → Holds l.lines.writer (text ++ flat_map row_text (take l.place l.rows)) []
