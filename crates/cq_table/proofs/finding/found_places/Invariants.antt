use Rattle.std.proofs.Common.{◌≡◌, ◌+◌, ◌++◌, length}
use Rattle.std.specs.List.{AllByRecursion}
use Rattle.cq_model.specs.Meaning.{keeps}
use Rattle.cq_model.specs.Width.{IsNarrowIn}
use Rattle.cq_operators_conditions.specs.Kept.{places_where}
use Rattle.cq_table_columns.specs.Stored.{all_rows, stored_marked}
use Rattle.cq_table.specs.Found.{passes}
use Rattle.cq_table.proofs.finding.found_places.Given as goal

-- the places that were found and those that are left to find are all
abbrev pub invariant-loop-left : goal.invariant-loop-left
invariant-loop-left l = record {
  found : l.found.items ++ places_where l.before (passes (keeps l.condition)) (stored_marked l.left) ≡ places_where 0 (passes (keeps l.condition)) (stored_marked l.rows);
  counted : l.before + length (stored_marked l.left) ≡ length (stored_marked l.rows);
  narrow : AllByRecursion (IsNarrowIn l.condition) (all_rows l.left);
}

-- fewer rows are left
abbrev pub decreases-loop-left : goal.decreases-loop-left
decreases-loop-left l = length (stored_marked l.left)
