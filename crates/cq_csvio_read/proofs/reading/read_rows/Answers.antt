use Rattle.std.proofs.Common.{◌++◌, ◌∷◌, [], refl, rules}
use Rattle.csv.specs.Records.{fields_of}
use Rattle.cq_binder_rules.specs.Records.{file_rows}
use Rattle.cq_csvio_read.specs.Records.{records_left}
use Rattle.cq_csvio_read.proofs.Walk.{record_given}
use Rattle.cq_csvio_read.proofs.reading.read_rows.Goals as goal

pub records-preserved : goal.records-preserved
records-preserved c =
    let inv = c.records.invariant in
    let t = rw c.if-branch.true at c.in_ok-next_record.ensures in
    let put = c.in_ok-read_row.ensures.ok in
    let rows = c.records.rows.rows in
    rw put.put (record {
      reading = t.0;
      ready = record { none = refl; wide = inv.ready.wide };
      rows = record_given c.args.columns.now _ (fields_of c.next_record.new.record) (records_left c.records.reader) (records_left c.next_record.new.reader) t.1
          (file_rows c.args.columns.now c.args.bytes.now) rows (search rules) inv.rows put.row (rows ++ put.row ∷ []) put.is refl;
    })
