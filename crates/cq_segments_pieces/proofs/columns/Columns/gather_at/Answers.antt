use Rattle.std.proofs.Common.{◌≡◌, ◌≤◌, ◌-◌, ◌∙◌, IfOk, ap, arith, drop, length, subst, sym}
use Rattle.std.proofs.lemmas.List.{length-drop, length-map, length-replicate}
use Rattle.cq_encodings.specs.AnyEncoded.{encoded_values}
use Rattle.cq_values.specs.Value.{column}
use Rattle.cq_values.specs.declared.value.Value.TheVariants.{Null}
use Rattle.cq_encodings_vectors.specs.Parts.{part_of}
use Rattle.cq_encodings_vectors.specs.Places.{AreBelow, values_at}
use Rattle.cq_segments_pieces.proofs.Parts.{length-part}
use Rattle.cq_segments_pieces.proofs.PlacesFrom.{behind_below, below_end, values-behind}
use Rattle.cq_segments_pieces.proofs.ValuesAt.{column-at, constant-at}
use Rattle.cq_segments_pieces.proofs.columns.Columns.gather_at.Goals as goal

pub places_behind-requires-clause-there : goal.places_behind-requires-clause-there
places_behind-requires-clause-there c =
    let values = part_of c.in-Some.part (encoded_values c.in-Some.encoded.now) in
    let rows = c.args.self.now in
    let few : length rows ≤ 1024 = omega (arith, ap length c.in-Some.ensures.part, length-drop c.in-Some.from values, length-part c.in-Some.part (encoded_values c.in-Some.encoded.now), length-map rows (λ row. column row c.args.column)) in
    below_end (length rows) 1024 c.args.places.now few c.requires.there

pub vector_at-requires-in-Some-clause-there : goal.vector_at-requires-in-Some-clause-there
vector_at-requires-in-Some-clause-there c =
    let from = c.in-Some.from in
    let values = part_of c.in-Some.part (encoded_values c.in-Some.encoded.now) in
    let rows = c.args.self.now in
    let count : length rows ≡ length values - from = sym (length-map rows (λ row. column row c.args.column)) ∙ sym (ap length c.in-Some.ensures.part) ∙ length-drop from values in
    subst (AreBelow (length values)) (sym (c.as_slice.ensures.value ∙ c.in_ok-places-in-Some.ensures))
    (behind_below from (length values) c.args.places.now (subst (λ n. AreBelow n c.args.places.now) count c.requires.there))

pub returns-in_ok-places-in-Some : goal.returns-in_ok-places-in-Some
returns-in_ok-places-in-Some c =
    let from = c.in-Some.from in
    let values = part_of c.in-Some.part (encoded_values c.in-Some.encoded.now) in
    let places = c.args.places.now in
    let read = ap (values_at values) (c.as_slice.ensures.value ∙ c.in_ok-places-in-Some.ensures) ∙ values-behind values from places
    ∙ ap (λ l. values_at l places) c.in-Some.ensures.part ∙ column-at c.args.self.now places c.args.column c.requires.there in
    subst (λ l. IfOk c.vector_at-in-Some.result (λ v. v ≡ l)) read c.vector_at-in-Some.ensures

pub returns-in-Some-default-default-eq0 : goal.returns-in-Some-default-default-eq0
returns-in-Some-default-default-eq0 c =
    let found = c.in-Some-default-default-eq0 in
    let places = c.args.places.now in
    let values = part_of found.part (encoded_values found.encoded.now) in
    let read = ap (λ n. values_at (drop n values) places) (sym found.field-0-2-test) ∙ ap (λ l. values_at l places) found.ensures.part ∙ column-at c.args.self.now places c.args.column c.requires.there in
    subst (λ l. IfOk c.vector_at.result (λ v. v ≡ l)) read c.vector_at.ensures

pub returns-in-None : goal.returns-in-None
returns-in-None c =
    let places = c.args.places.now in
    let count = length c.args.self.now in
    c.new.ensures ∙ constant-at Null count places (subst (λ n. AreBelow n places) (sym (length-replicate count Null)) c.requires.there)
    ∙ ap (λ l. values_at l places) (sym c.in-None.ensures.past) ∙ column-at c.args.self.now places c.args.column c.requires.there
