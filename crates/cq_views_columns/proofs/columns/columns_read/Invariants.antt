use Rattle.std.proofs.Common.{◌≡◌, filter}
use Rattle.std.specs.List.{range_with_len}
use Rattle.cq_views_columns.specs.Reads.{is_read}
use Rattle.cq_views_columns.proofs.columns.columns_read.Given as goal

-- of the columns so far these are read
abbrev pub invariant-loop-column : goal.invariant-loop-column
invariant-loop-column l = l.columns ≡ filter (is_read l.query l.widths l.source) (range_with_len 0 l.column)
