use Rattle.std.proofs.Common.{ap, arith, length, ◌≡◌}
use Rattle.cq_vectors_stored.specs.Columns.{text_unless}
use Rattle.cq_encodings.specs.Dict.{coded}
use Rattle.cq_encodings.proofs.Coded.{length-coded}
use Rattle.cq_encodings_plain.proofs.Zipped.{length-zipped}
use Rattle.cq_encodings.proofs.dict.DictEncoded.len.Goals as goal

pub returns : goal.returns
returns c =
    let inside = c.self.inside in
    let long : length (coded inside.entries inside.codes) ≡ length inside.codes = length-coded inside.entries inside.codes in
    let same : length inside.nulls ≡ length (coded inside.entries inside.codes) = omega (arith, long, c.self.invariant.0.long) in
    omega (arith, c.len.ensures, long, length-zipped text_unless (coded inside.entries inside.codes) inside.nulls same, ap length c.self.view_is)
