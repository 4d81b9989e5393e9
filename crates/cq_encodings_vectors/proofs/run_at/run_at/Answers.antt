use Rattle.std.proofs.Common.{◌∙◌, ◌≡◌, List, ℕ, [], ap, arith, drop, length, refl, subst, sym}
use Rattle.std.proofs.lemmas.List.{length-drop, length-map, length-take}
use Rattle.cq_model.specs.Condition.{is_null}
use Rattle.cq_vectors_stored.specs.Columns.{text_unless}
use Rattle.cq_vectors_stored.specs.LentColumns.{part_of, texts_from}
use Rattle.cq_encodings_vectors.specs.Places.{AreBelow}
use Rattle.cq_encodings_vectors.proofs.AtPlaces.{at-clear, at-made, run-part}
use Rattle.cq_encodings_vectors.proofs.run_at.run_at.Goals as goal

pub new-requires-clause-empty : goal.new-requires-clause-empty
new-requires-clause-empty c =
    let p = c.parts-start in
    let nulls = c.nulls-nulls in
    let many = ap length nulls.ensures ∙ length-map c.args.column.now is_null in
    let below = subst (λ (n : ℕ). AreBelow n c.args.places.now) (sym many) c.requires.there in
    let is = c.in_ok-lent.ensures ∙ run-part p.result.0.now p.result.1 nulls.result.now c.args.places.now below in
    at-clear [] (λ (text : List ℕ). text) [] (part_of p.result.0.now p.result.1 (length nulls.result.now)) nulls.result.now c.args.places.now is c.nulls_at-flags.ensures

pub returns : goal.returns
returns c =
    let p = c.parts-start in
    let nulls = c.nulls-nulls in
    let many = ap length nulls.ensures ∙ length-map c.args.column.now is_null in
    let below = subst (λ (n : ℕ). AreBelow n c.args.places.now) (sym many) c.requires.there in
    let is = c.in_ok-lent.ensures ∙ run-part p.result.0.now p.result.1 nulls.result.now c.args.places.now below in
    let long : length nulls.result.now ≡ length (part_of p.result.0.now p.result.1 (length nulls.result.now)) =
    omega (arith, many, p.ensures.there, length-take (length nulls.result.now) (drop p.result.1 p.result.0.now), length-drop p.result.1 p.result.0.now) in
    c.new.ensures
    ∙ at-made [] (λ (text : List ℕ). text) [] (part_of p.result.0.now p.result.1 (length nulls.result.now)) nulls.result.now c.args.places.now is c.nulls_at-flags.ensures
    text_unless (λ x y. refl) long c.args.column.now (p.ensures.whole ∙ ap (λ bs. texts_from p.result.0.now p.result.1 bs) (sym nulls.ensures)) c.requires.there
