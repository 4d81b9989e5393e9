use Rattle.std.proofs.Common.{◌∙◌, ℕ, ap, length, map, subst, sym}
use Rattle.std.proofs.lemmas.List.{length-map}
use Rattle.cq_values.specs.Lent.{owned}
use Rattle.cq_values.specs.declared.lent.Lent.TheVariants as lent
use Rattle.cq_values.specs.declared.value.Value.TheVariants.{Null}
use Rattle.cq_encodings_vectors.specs.Places.{AreBelow, values_at}
use Rattle.cq_encodings_vectors.proofs.ItemsAt.{map-at}
use Rattle.cq_encodings_vectors.proofs.values.decoded_places.Goals as goal

pub copies_at-requires : goal.copies_at-requires
copies_at-requires c =
    subst (λ (n : ℕ). AreBelow n c.args.places.now) (sym (ap length (c.values.ensures ∙ c.in_ok-decoded.ensures)) ∙ length-map c.values.result.now owned) c.requires.there

pub returns : goal.returns
returns c =
    let all = c.values.result.now in
    let places = c.args.places.now in
    let is = c.values.ensures ∙ c.in_ok-decoded.ensures in
    let below = subst (λ (n : ℕ). AreBelow n places) (sym (ap length is) ∙ length-map all owned) c.requires.there in
    ap (map owned) (c.in_ok-found.ensures lent.Null) ∙ sym (map-at owned lent.Null Null all places below) ∙ ap (λ vs. values_at vs places) is
