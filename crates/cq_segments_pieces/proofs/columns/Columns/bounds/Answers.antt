use Rattle.std.proofs.Common.{◌≡◌, ◌∙◌, ℕ, ap, arith, drop, subst, sym}
use Rattle.cq_encodings.specs.declared.any_encoded.AnyEncoded.{AnyEncoded}
use Rattle.cq_encodings_numbers.specs.Bounds.{AreBoundsOf}
use Rattle.cq_encodings_vectors.specs.Parts.{part_of}
use Rattle.cq_segments_pieces.specs.Columns.{values_from}
use Rattle.cq_segments_pieces.proofs.columns.Columns.bounds.Goals as goal

pub returns-in-Packed : goal.returns-in-Packed
returns-in-Packed c =
    let part = c.in_ok-encoded.part in
    let from = c.in_ok-encoded.from in
    let none_cut : from ≡ 0 = omega (arith, c.if-from-gt0.false) in
    let values = part_of part c.in-Packed.packed in
    let rows = ap (λ (n : ℕ). drop n values) (sym none_cut) ∙ ap (λ (e : AnyEncoded). values_from e part from) (sym c.in-Packed.is) ∙ c.in_ok-encoded.ensures.part in
    subst (AreBoundsOf c.part_bounds.result) rows c.part_bounds.ensures
