use Rattle.cq_csvio.proofs.Written.{ends}
use Rattle.cq_csvio.proofs.lines.Lines.end.Goals as goal

pub returns : goal.returns
returns c =
    let e = c.in_ok-end_record.ensures in
    ends c.args.self.now.writer c.end_record.new.self e.bytes e.fields e.wrote e.same
