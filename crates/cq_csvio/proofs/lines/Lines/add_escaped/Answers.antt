use Rattle.std.proofs.Common.{rules, ◌≡◌, ◌∷◌}
use Rattle.cq_csvio.proofs.Written.{adds}
use Rattle.cq_csvio.proofs.lines.Lines.add_escaped.Goals as goal

pub returns : goal.returns
returns c =
    let e = c.in_ok-write_field.ensures in
    let field : c.as_slice.result.now ≡ 92 ∷ c.args.field.now = search rules in
    rw field at (adds c.as_slice.result.now c.args.self.now.writer c.write_field.new.self e.text e.same e.count e.wrote e.stays)
