use Rattle.std.proofs.Common.{◌≡◌, drop}
use Rattle.cq_segments_pieces.specs.Rows.{row_of}
use Rattle.cq_segments.specs.Sorted.{columns_cmp}
use Rattle.cq_segments.proofs.sorting.cmp_by.Given as goal

-- the columns so far leave it to the others
abbrev pub invariant-loop-column : goal.invariant-loop-column
invariant-loop-column l = columns_cmp l.sort (row_of l.a) (row_of l.b) ≡ columns_cmp (drop l.column-index l.sort) (row_of l.a) (row_of l.b)
