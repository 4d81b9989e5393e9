use Rattle.std.proofs.Common.{◌∙◌, ◌+ℤ◌, ℕ, ap, arith, length, map, pos, refl, sym, to_z-of_z}
use Rattle.std.proofs.lemmas.List.{length-map}
use Rattle.cq_model.specs.Condition.{is_null}
use Rattle.cq_values.specs.Days.{IsDay}
use Rattle.cq_vectors_stored.specs.Columns.{day_unless}
use Rattle.cq_vectors_stored.specs.LentColumns.{days_above}
use Rattle.cq_vectors_stored.specs.Offsets.{offsets_in}
use Rattle.cq_encodings_vectors.specs.Places.{number_of_place}
use Rattle.cq_encodings_vectors.proofs.AtPlaces.{at-clear, at-facts, at-made, clear-kept}
use Rattle.cq_encodings_vectors.proofs.Packing.{at_base, day_fits}
use Rattle.cq_encodings_vectors.proofs.days_at.days_at.Goals as goal

pub new-requires-clause-zero : goal.new-requires-clause-zero
new-requires-clause-zero c =
    let p = c.parts-base in
    let offsets = offsets_in p.result.1 in
    let nulls = c.nulls-nulls.result.now in
    let back = to_z-of_z (day_fits p.result.0 (at_base IsDay p.result.0 offsets p.ensures.fit)) in
    let is = c.in_ok-values.ensures ∙ ap (λ b. map (number_of_place b offsets) c.args.places.now) back ∙ clear-kept (pos 0) nulls (number_of_place p.result.0 offsets) c.if-not-is_clear.ensures c.args.places.now in
    at-clear (pos 0) (λ (offset : ℕ). p.result.0 +ℤ pos offset) 0 offsets nulls c.args.places.now is c.nulls_at-flags.ensures

pub new-requires-clause-days : goal.new-requires-clause-days
new-requires-clause-days c =
    let p = c.parts-base in
    let offsets = offsets_in p.result.1 in
    let nulls = c.nulls-nulls.result.now in
    let back = to_z-of_z (day_fits p.result.0 (at_base IsDay p.result.0 offsets p.ensures.fit)) in
    let is = c.in_ok-values.ensures ∙ ap (λ b. map (number_of_place b offsets) c.args.places.now) back ∙ clear-kept (pos 0) nulls (number_of_place p.result.0 offsets) c.if-not-is_clear.ensures c.args.places.now in
    at-facts (pos 0) (λ (offset : ℕ). p.result.0 +ℤ pos offset) 0 offsets nulls c.args.places.now is c.nulls_at-flags.ensures IsDay (omega arith, omega arith) p.ensures.fit

pub returns : goal.returns
returns c =
    let p = c.parts-base in
    let offsets = offsets_in p.result.1 in
    let nulls = c.nulls-nulls.result.now in
    let back = to_z-of_z (day_fits p.result.0 (at_base IsDay p.result.0 offsets p.ensures.fit)) in
    let is = c.in_ok-values.ensures ∙ ap (λ b. map (number_of_place b offsets) c.args.places.now) back ∙ clear-kept (pos 0) nulls (number_of_place p.result.0 offsets) c.if-not-is_clear.ensures c.args.places.now in
    let long = ap length c.nulls-nulls.ensures ∙ length-map c.args.days.now is_null ∙ sym p.ensures.long in
    c.new.ensures
    ∙ at-made (pos 0) (λ (offset : ℕ). p.result.0 +ℤ pos offset) 0 offsets nulls c.args.places.now is c.nulls_at-flags.ensures
    day_unless (λ x y. refl) long c.args.days.now (p.ensures.whole ∙ ap (λ bs. days_above p.result.0 offsets bs) (sym c.nulls-nulls.ensures)) c.requires.there
