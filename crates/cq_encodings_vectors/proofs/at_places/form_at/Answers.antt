use Rattle.std.proofs.Common.{◌∙◌, ◌≡◌, List, ap, length, replicate, subst, sym}
use Rattle.cq_values.specs.Lent.{owned}
use Rattle.cq_values.specs.declared.value.Value.{Value}
use Rattle.cq_vectors.specs.Form.{values_in}
use Rattle.cq_encodings_vectors.specs.Places.{AreBelow, values_at}
use Rattle.cq_encodings_vectors.proofs.AtPlaces.{constant-at}
use Rattle.cq_encodings_vectors.proofs.at_places.form_at.Goals as goal

pub returns-in-Constant : goal.returns-in-Constant
returns-in-Constant c =
    let places = c.args.places.now in
    let value = owned c.in-Constant.value in
    let is : values_in c.args.form.now ≡ replicate c.in-Constant.field-1 value = ap values_in c.in-Constant.is in
    ap (replicate (length places)) c.lend_again.ensures
    ∙ constant-at value c.in-Constant.field-1 places (subst (λ (vs : List Value). AreBelow (length vs) places) is c.requires.there)
    ∙ ap (λ vs. values_at vs places) (sym is)
