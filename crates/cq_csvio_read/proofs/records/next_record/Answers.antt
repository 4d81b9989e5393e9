use Rattle.csv.specs.Records.{fields_of}
use Rattle.cq_csvio_read.proofs.Csv.{takes}
use Rattle.cq_csvio_read.proofs.records.next_record.Goals as goal

pub returns : goal.returns
returns c =
    let e = c.in_ok-read_byte_record.ensures in
    takes c.args.reader.now c.read_byte_record.new.self c.in_ok-read_byte_record.field-0 (fields_of c.read_byte_record.new.row) c.requires (e.reads c.requires.0 c.requires.1) (e.ready c.requires.0) e.flexible
