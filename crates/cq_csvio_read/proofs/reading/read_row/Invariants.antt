use Rattle.std.proofs.Common.{◌≡◌, drop, length}
use Rattle.csv.specs.Records.{fields_of}
use Rattle.cq_binder_rules.specs.Records.{field_values}
use Rattle.cq_csvio_read.proofs.Walk.{behind}
use Rattle.cq_csvio_read.proofs.reading.read_row.Given as goal

-- the values so far, and behind them those of the fields that are left, are the values of the record
abbrev pub invariant-loop-i : goal.invariant-loop-i
invariant-loop-i l = record {
  wide : length (fields_of l.«record») ≡ length l.columns;
  width : l.rows.width ≡ length l.columns;
  kept : l.rows.rows ≡ l.initial.rows.rows;
  so_far : length l.rows.begun ≡ l.i;
  values : field_values l.at l.columns (fields_of l.«record») ≡ behind l.rows.begun (field_values l.at (drop l.i l.columns) (drop l.i (fields_of l.«record»)));
}
