use Rattle.std.proofs.Common.{◌≡◌, take}
use Rattle.cq_segments_pieces.specs.Columns.{columns_in}
use Rattle.cq_hash_groups.specs.Shown.{CanAllShow}
use Rattle.cq_hash_groups.proofs.ColumnsShown.{key_columns, shown_columns}
use Rattle.cq_hash_groups.proofs.shown.put_rows.Given as goal

-- the columns of the keys so far
abbrev pub invariant-loop-column : goal.invariant-loop-column
invariant-loop-column l = columns_in l.columns.items ≡ key_columns l.column l.found.keys l.start 1024

-- and those of the aggregates so far, which can be shown
abbrev pub invariant-loop-each : goal.invariant-loop-each
invariant-loop-each l = record {
  columns : columns_in l.columns.items ≡ shown_columns l.width l.found.keys (take l.each-index l.slots) l.start 1024;
  range : CanAllShow l.start 1024 (take l.each-index l.slots);
}
