use Rattle.std.proofs.Common.{◌≡◌, ◌+◌, length}
use Rattle.cq_binder_rules.specs.Records.{file_rows, record_rows}
use Rattle.cq_writestore_rows.specs.Filling.{IsReadyFor}
use Rattle.cq_csvio_read.specs.Records.{IsReading, records_left}
use Rattle.cq_csvio_read.proofs.Walk.{behind}
use Rattle.cq_csvio_read.proofs.reading.read_rows.Given as goal

-- the rows so far, and behind them those of the records that are left, are the rows of the file
abbrev pub invariant-records : goal.invariant-records
invariant-records l = record {
  reading : IsReading l.reader;
  ready : IsReadyFor (length l.columns) l.rows;
  rows : file_rows l.columns l.bytes ≡ behind l.rows.rows (record_rows l.columns (length l.rows.rows + 1) (records_left l.reader));
}

abbrev pub decreases-records : goal.decreases-records
decreases-records l = length (records_left l.reader)
