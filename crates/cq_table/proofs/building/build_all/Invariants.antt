use Rattle.std.proofs.Common.{◌≤◌, ◌-◌, drop, length}
use Rattle.cq_segments_pieces.specs.Rows.{stored_rows}
use Rattle.cq_table.proofs.Built.{BuiltWith}
use Rattle.cq_table.proofs.building.build_all.Given as goal

-- the segments so far, and those of the rows that are left, are built of all rows
abbrev pub invariant-loop-from : goal.invariant-loop-from
invariant-loop-from l = record {
  within : l.from ≤ length l.rows;
  built : BuiltWith l.layout.sort (stored_rows l.rows) (stored_rows (drop l.from l.rows)) l.made.items;
}

-- fewer rows are left
abbrev pub decreases-loop-from : goal.decreases-loop-from
decreases-loop-from l = length l.rows - l.from
