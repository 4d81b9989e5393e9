-- A view shows its query's bag, and can show it where the query's totals are in range.
use Rattle.std.proofs.Common.{◌≡◌, List, [], ◌∷◌, map, None, Some, Option, sym, ◌∙◌, ap, ap₂, subst}
use Rattle.cq_values.specs.Value.{Row}
use Rattle.cq_model_bags.specs.Bag.{SameBag, IsBag, Weighted, filtered, once_each, projected}
use Rattle.cq_model_bags.proofs.Bags.{same-refl}
use Rattle.cq_model_bags.proofs.Distincts.{once_each-map}
use Rattle.cq_model_bags.proofs.Positives.{projected-bag}
use Rattle.cq_views_model.specs.Kept.{Groups, Images, LastStands}
use Rattle.cq_views_model.specs.Shown.{ListsKeys}
use Rattle.cq_model_laws.proofs.Positives.{joined_rows-bag}
use Rattle.cq_model_laws.proofs.Shown.{last-shown}
use Rattle.cq_model.specs.Expr.{Cond, Expr}
use Rattle.cq_model.specs.Group.{group_row}
use Rattle.cq_model.specs.Meaning.{ShapeInRange, items_of, joined_rows, keeps, shaped, shown}
use Rattle.cq_model.specs.Sizes.{count_size}
use Rattle.cq_model.specs.declared.query.Query.{Query}
use Rattle.cq_model.specs.declared.query.Shape.{Shape}
use Rattle.cq_model.specs.declared.query.Shape.TheVariants.{Plain, Grouped}
use Rattle.cq_deltas.specs.Keyed.{KeyedGroups, group_at}
use Rattle.cq_deltas.specs.Shown.{GroupsCanBeShown, counted_keys, group_rows}
use Rattle.cq_views_state.proofs.Changing.{images-for}
use Rattle.cq_views_state.proofs.Groups.{can-be-shown, in-range, one-can-be-shown, one-in-range, one-row}
use Rattle.cq_views_state.proofs.Limits.{rows-crossed, rows-stored}
use Rattle.cq_views_model.specs.Query.{HasNoHaving, aggregates_in, aggregates_of}
use Rattle.cq_views_state.specs.Shown.{AreRowsOf, CanShow, IsNotShown, IsShown, ShowsInRange, ShowsOutOfRange, ShowsRows, StandsOnStored, all_rows}
use Rattle.cq_views_state.specs.declared.last.Last.TheVariants as stored
use Rattle.cq_views_state.specs.declared.state.ViewState.{ViewState}
use Rattle.cq_model.proofs.Conditions.{all-pass}

-- ---- the rows of groups
module _ (query : Query) (groups : KeyedGroups) where
  abbrev Lists : Shape → Type 0
  Lists shape = ListsKeys (counted_keys groups) (Groups (group_at (aggregates_in shape) groups))

  abbrev Stand : Shape → Weighted → Type 0
  Stand shape xs = LastStands query shape xs (Groups (group_at (aggregates_in shape) groups))

  abbrev items : Row → Row
  items = items_of query.items

  -- what the items are in the rows that were found is what the query's items are in all rows
  pub items-shown : (its : List Expr) (rows results : List Row) → its ≡ query.items → rows ≡ all_rows query.shape groups → results ≡ map (items_of its) rows → results ≡ map items (all_rows query.shape groups)
  items-shown its rows results is are e = e ∙ ap₂ (λ (es : List Expr) (rs : List Row). map (items_of es) rs) is are

  by-shape : (shape : Shape) → HasNoHaving shape → Lists shape → (xs : Weighted) → Stand shape xs → IsBag xs
      → SameBag (once_each (map items (all_rows shape groups))) (projected items (shaped shape xs))
  by-shape Plain no_having lists xs stand bag = absurd stand
  by-shape (Grouped None aggregates having) no_having lists xs stand bag =
      let row = group_row aggregates [] xs in
      subst (λ (h : Option Cond). SameBag (once_each (map items (all_rows (Grouped None aggregates having) groups))) (projected items (filtered (keeps h) (once_each (row ∷ []))))) (sym no_having)
      (subst (λ (rows : List Row). SameBag (once_each (map items rows)) (once_each (items row ∷ []))) (sym (one-row aggregates groups xs bag lists stand)) (same-refl (once_each (items row ∷ []))))
  by-shape (Grouped (Some keys) aggregates having) no_having lists xs stand bag =
      let rows = group_rows aggregates groups in
      let shown_rows = last-shown query (Grouped (Some keys) aggregates having) xs (counted_keys groups) (Groups (group_at aggregates groups)) bag stand lists in
      let same : once_each (map items rows) ≡ projected items (filtered (keeps having) (once_each rows)) =
      once_each-map items rows ∙ ap (projected items) (sym (ap (λ (h : Option Cond). filtered (keeps h) (once_each rows)) no_having ∙ all-pass (once_each rows))) in
      subst (λ (ys : Weighted). SameBag ys (projected items (shaped (Grouped (Some keys) aggregates having) xs))) (sym same) shown_rows

  range-by_shape : (shape : Shape) → Lists shape → GroupsCanBeShown (aggregates_in shape) groups → (xs : Weighted) → Stand shape xs → IsBag xs → ShapeInRange shape xs
  range-by_shape Plain lists can xs stand bag = absurd stand
  range-by_shape (Grouped None aggregates having) lists can xs stand bag = one-in-range aggregates groups xs bag lists stand can
  range-by_shape (Grouped (Some keys) aggregates having) lists can xs stand bag = in-range keys aggregates groups xs lists stand can

  shown-by_shape : (shape : Shape) → Lists shape → (xs : Weighted) → Stand shape xs → IsBag xs → ShapeInRange shape xs → GroupsCanBeShown (aggregates_in shape) groups
  shown-by_shape Plain lists xs stand bag range = absurd stand
  shown-by_shape (Grouped None aggregates having) lists xs stand bag range = one-can-be-shown aggregates groups xs bag lists stand range
  shown-by_shape (Grouped (Some keys) aggregates having) lists xs stand bag range = can-be-shown keys aggregates groups xs lists stand range

  module _ (lists : Lists query.shape) where
    pub groups-shown : HasNoHaving query.shape → (rows : List Row) → rows ≡ map items (all_rows query.shape groups) → ShowsRows query (stored.Groups groups) rows
    groups-shown no_having rows is xs stands bag =
        subst (λ (rs : List Row). SameBag (once_each rs) (shown query xs)) (sym is) (by-shape query.shape no_having lists xs stands bag)

    pub groups-in_range : GroupsCanBeShown (aggregates_of query) groups → ShowsInRange query (stored.Groups groups)
    groups-in_range can xs stands bag = range-by_shape query.shape lists can xs stands bag

    pub groups-out_of_range : (GroupsCanBeShown (aggregates_of query) groups → ⊥) → ShowsOutOfRange query (stored.Groups groups)
    groups-out_of_range cannot xs stands bag range = cannot (shown-by_shape query.shape lists xs stands bag range)

-- ---- images
-- the images of a bag are one
pub images-bag : (query : Query) (images : Weighted) (xs : Weighted) → LastStands query query.shape xs (Images images) → IsBag xs → IsBag images
images-bag query images xs stands bag =
    let same = images-for query query.shape xs images stands in
    let whole = projected-bag (items_of query.items) xs bag in
    record { at = λ r. rw (same.at r) (whole.at r) }

-- ---- views
module _ (v : ViewState) (can : CanShow v) where
  pub on-stored : StandsOnStored v.query v.last
  on-stored = record {
    xs = joined_rows v.query can.tables;
    stands = can.stands.last;
    few = rows-crossed v.query can.tables count_size can.few;
    stored = rows-stored v.query can.tables can.stored;
    bag = joined_rows-bag v.query can.tables can.bags;
  }

  pub view-shown : (rows : List Row) → ShowsRows v.query v.last rows → AreRowsOf v rows
  view-shown rows shows = λ tables stands bags.
      let same = shows (joined_rows v.query tables) stands.last (joined_rows-bag v.query tables bags) in
      rw can.can.each same

  pub view-in_range : ShowsInRange v.query v.last → IsShown v
  view-in_range shows = λ tables stands bags. shows (joined_rows v.query tables) stands.last (joined_rows-bag v.query tables bags)

  pub view-out_of_range : ShowsOutOfRange v.query v.last → IsNotShown v
  view-out_of_range shows = λ tables stands bags range. shows (joined_rows v.query tables) stands.last (joined_rows-bag v.query tables bags) range
