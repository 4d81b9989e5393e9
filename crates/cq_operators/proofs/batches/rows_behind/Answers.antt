use Rattle.std.proofs.Common.{◌<◌, ◌≡◌, ◌≤◌, ◌∙◌, ◌∷◌, ◌++◌, [], List, ap, arith, drop, length, subst, sym}
use Rattle.std.proofs.lemmas.List.{map-append, take_all, take_more}
use Rattle.std.specs.Prelude.{IfOk}
use Rattle.cq_values.specs.Value.{Row}
use Rattle.cq_model_bags.proofs.Lists.{all-push}
use Rattle.cq_values_rows.specs.Columns.{AreBelow, row_or_none, rows_at}
use Rattle.cq_operators.proofs.Between.{between-next}
use Rattle.cq_operators.proofs.batches.rows_behind.Goals as goal

-- with the next row they are one more
pub loop-place-preserved : goal.loop-place-preserved
loop-place-preserved c =
    let list = c.args.list.now in
    let at = c.loop-place.place in
    let row = row_or_none list at in
    let inside : at < length list = omega (arith, c.loop-place-test.true, c.loop-place.auto.place-end) in
    record {
      rows = ap (rows_at list) c.in_ok-push.ensures.items ∙ map-append (row_or_none list) c.loop-place.places.items (at ∷ [])
          ∙ ap (λ (rows : List Row). rows ++ row ∷ []) c.loop-place.invariant.rows
          ∙ sym (between-next c.args.start at list (omega (arith, c.loop-place.auto.place)) (omega (arith, inside)) row (take_more list at [] inside));
      below = subst (AreBelow (length list)) (sym c.in_ok-push.ensures.items) (all-push _ c.loop-place.places.items at c.loop-place.invariant.below inside);
    }

-- they are all rows behind
pub at_places-requires : goal.at_places-requires
at_places-requires c = rw c.deref.ensures.value c.loop-place.invariant.below

pub returns : goal.returns
returns c =
    let list = c.args.list.now in
    let end : length list ≤ c.loop-place.place = omega (arith, c.loop-place-test.false, c.len-place-end.ensures) in
    let all : rows_at list c.deref.result.now ≡ drop c.args.start list =
    ap (rows_at list) c.deref.ensures.value ∙ c.loop-place.invariant.rows ∙ ap (drop c.args.start) (take_all c.loop-place.place list end) in
    subst (λ (behind : List Row). IfOk c.at_places.result (λ rows. rows ≡ behind)) all c.at_places.ensures
