use Rattle.std.proofs.Common.{◌∙◌, List, ap, length, subst, sym}
use Rattle.cq_values.specs.Lent.{owned}
use Rattle.cq_values.specs.declared.value.Value.{Value}
use Rattle.cq_encodings_vectors.specs.Places.{AreBelow, values_at}
use Rattle.cq_encodings_vectors.proofs.AtPlaces.{constant-at}
use Rattle.cq_encodings_vectors.proofs.columns.run_at.Goals as goal

pub returns-in-Some : goal.returns-in-Some
returns-in-Some c =
    let places = c.args.places.now in
    let is = c.in-Some.ensures in
    constant-at (owned c.in-Some.value) (length c.args.runs.now) places (subst (λ (vs : List Value). AreBelow (length vs) places) is c.requires)
    ∙ ap (λ vs. values_at vs places) (sym is)
