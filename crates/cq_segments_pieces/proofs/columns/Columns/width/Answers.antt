use Rattle.std.proofs.Common.{◌≡◌, ◌<◌, ℕ, List, ap, arith, get_or, length, subst}
use Rattle.std.specs.Global.{Vec}
use Rattle.cq_encodings.specs.declared.any_encoded.AnyEncoded.{AnyEncoded}
use Rattle.cq_values.specs.Value.{Row}
use Rattle.cq_segments_pieces.proofs.Parts.{width_of_part}
use Rattle.cq_segments_pieces.proofs.columns.Columns.width.Goals as goal

pub returns : goal.returns
returns c =
    let encoded = c.self.inside.encoded.value.items in
    let count = ap (λ (v : Vec AnyEncoded). length v.items) c.as_ref.ensures in
    subst (λ (rows : List Row). (k : ℕ) (d : Row) → k < length rows → length (get_or rows k d) ≡ c.len.result) c.self.view_is
    (λ k d lt. omega (arith, c.len.ensures, count, width_of_part encoded c.self.inside.part c.self.inside.from c.self.inside.count k d lt))
