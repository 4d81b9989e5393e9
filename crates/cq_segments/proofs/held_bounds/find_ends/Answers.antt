use Rattle.std.proofs.Common.{◌≡◌, ◌∙◌, ◌+◌, ◌<◌, ap, arith, length, map, subst, sym, take}
use Rattle.std.proofs.lemmas.List.{get_or-map, get_or_default, length-map}
use Rattle.cq_values.specs.Lent.{owned}
use Rattle.cq_values.specs.declared.value.Value.TheVariants.{Null}
use Rattle.cq_encodings_numbers.specs.Bounds.{AreBounds}
use Rattle.cq_segments.specs.Bounds.{ends_at, value_at, wider_ends}
use Rattle.cq_segments.proofs.Ends.{with_null, with_value}
use Rattle.cq_segments.proofs.held_bounds.find_ends.Goals.{then-is_null, else-is_null}
use Rattle.cq_segments.proofs.held_bounds.find_ends.Goals as goal

pub loop-place-preserved : goal.loop-place-preserved
loop-place-preserved c =
    let lent = c.args.values.now in
    let values = map owned lent in
    let place = c.loop-place.place in
    let one = c.index-values-place.result in
    let lt : place < length lent = c.loop-place-test.true in
    let below : place < length values = omega (arith, lt, length-map lent owned) in
    let there = ap owned c.index-values-place.is ∙ sym (get_or-map owned lent place one (owned one) lt) in
    let at : value_at lent place ≡ owned one = get_or_default values place Null (owned one) below ∙ sym there in
    let ends = ends_at c.loop-place.places values in
    elim c.if-is_null.branch [
      | then-is_null w ↦ rw (w.has_null-is, w.places-is) record {
        bounds = with_null values place (owned one) below there c.loop-place.has_null ends c.loop-place.invariant.bounds (sym c.is_null.ensures ∙ w.if-is_null.true);
        within = c.loop-place.invariant.within;
      }
      | else-is_null w ↦ rw (w.has_null-is, w.places-is) record {
        bounds = subst (λ e. AreBounds c.loop-place.has_null e (take (place + 1) values)) (sym (w.wider.ensures.ends ∙ ap (wider_ends ends) at)) (with_value values place (owned one) below there c.loop-place.has_null ends c.loop-place.invariant.bounds (sym c.is_null.ensures ∙ w.if-is_null.false));
        within = w.wider.ensures.within;
      }
    ]
