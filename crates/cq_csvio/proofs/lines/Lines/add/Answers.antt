use Rattle.cq_csvio.proofs.Written.{adds}
use Rattle.cq_csvio.proofs.lines.Lines.add.Goals as goal

pub returns : goal.returns
returns c =
    let e = c.in_ok-write_field.ensures in
    adds _ c.args.self.now.writer c.write_field.new.self e.text e.same e.count e.wrote e.stays
