use Rattle.std.proofs.Common.{◌≡◌, ◌+◌, ◌∙◌, IfOk, ap, arith, length, subst, sym}
use Rattle.std.proofs.lemmas.List.{length-drop, length-map}
use Rattle.std.proofs.lemmas.List.FromFn.{length-range_with_len}
use Rattle.cq_encodings.specs.AnyEncoded.{encoded_values}
use Rattle.cq_encodings_vectors.specs.Parts.{part_of}
use Rattle.cq_encodings_vectors.specs.Places.{AreBelow, values_at}
use Rattle.cq_values.specs.Value.{column}
use Rattle.cq_segments_pieces.proofs.PlacesFrom.{range_below, values-from}
use Rattle.cq_segments_pieces.proofs.columns.Columns.gather.Goals as goal

pub vector_at-requires-clause-few : goal.vector_at-requires-clause-few
vector_at-requires-clause-few c =
    omega (arith, ap length (c.as_slice.ensures.value ∙ c.in_ok-places-in-Some.ensures), length-range_with_len c.in-Some.from c.len.result, c.len.ensures.few)

pub vector_at-requires-clause-there : goal.vector_at-requires-clause-there
vector_at-requires-clause-there c =
    let from = c.in-Some.from in
    let values = part_of c.in-Some.part (encoded_values c.in-Some.encoded.now) in
    let rows = c.args.self.now in
    let count : from + c.len.result ≡ length values = omega (arith, c.len.ensures.len, c.len.ensures.some, ap length c.in-Some.ensures.part, length-drop from values, length-map rows (λ row. column row c.args.column)) in
    subst (AreBelow (length values)) (sym (c.as_slice.ensures.value ∙ c.in_ok-places-in-Some.ensures)) (range_below from c.len.result (length values) (omega (arith, count)))

pub returns-in_ok-places-in-Some : goal.returns-in_ok-places-in-Some
returns-in_ok-places-in-Some c =
    let from = c.in-Some.from in
    let values = part_of c.in-Some.part (encoded_values c.in-Some.encoded.now) in
    let rows = c.args.self.now in
    let count : from + c.len.result ≡ length values = omega (arith, c.len.ensures.len, c.len.ensures.some, ap length c.in-Some.ensures.part, length-drop from values, length-map rows (λ row. column row c.args.column)) in
    let read = ap (values_at values) (c.as_slice.ensures.value ∙ c.in_ok-places-in-Some.ensures) ∙ values-from values from c.len.result count ∙ c.in-Some.ensures.part in
    subst (λ l. IfOk c.vector_at.result (λ v. v ≡ l)) read c.vector_at.ensures
