-- What a view keeps behind its joins shows the rows of its query.
use Rattle.std.proofs.Common.{◌≡◌, ℕ, pos, int_lt, cond, List, [], ◌∷◌, map, Option, Some, None, refl, sym, ◌∙◌, ap, subst}
use Rattle.cq_values.specs.Value.{Row}
use Rattle.cq_values.specs.Order.{same_row}
use Rattle.cq_values.specs.Keys.{same_row-refl}
use Rattle.cq_model_bags.specs.Bag.{Weighted, SameBag, IsBag, once_each, filtered, projected, distinct}
use Rattle.cq_model_bags.proofs.Bags.{same-refl, filtered-respects, projected-respects}
use Rattle.cq_model_bags.proofs.Distincts.{once_each-map, weight_of-distinct}
use Rattle.cq_model_bags.proofs.Positives.{filtered-bag}
use Rattle.cq_model.specs.Expr.{Cond}
use Rattle.cq_model.specs.declared.query.Aggregate.{Aggregate}
use Rattle.cq_model.specs.declared.query.Query.{Query}
use Rattle.cq_model.specs.declared.query.Shape.{Shape}
use Rattle.cq_model.specs.declared.query.Shape.TheVariants.{Plain, Grouped}
use Rattle.cq_model.specs.Group.{key_of, rows_of_key, group_row, keys_of, grouped}
use Rattle.cq_views_model.specs.Kept.{Group, GroupStands, Last, Images, Groups, LastStands, shown_row}
use Rattle.cq_model.specs.Meaning.{keeps, items_of, shaped}
use Rattle.cq_views_model.specs.Shown.{shown_rows, ListsKeys}
use Rattle.cq_model_laws.proofs.Counted.{group-shows}
use Rattle.cq_model_laws.proofs.Groups.{projected-same}
use Rattle.cq_model_laws.proofs.Ranges.{key-weight}

-- without key columns all rows have one key
pub rows_of_no_key : (xs : Weighted) → rows_of_key [] [] xs ≡ xs
rows_of_no_key [] = refl
rows_of_no_key (x ∷ xs) = rw (same_row-refl [], rows_of_no_key xs) refl

module _ (columns : List ℕ) (aggregates : List Aggregate) (xs : Weighted) (bag : IsBag xs) (group : Row → Group) (stand : (k : Row) → GroupStands aggregates (rows_of_key columns k xs) (group k)) where
  -- the row that is shown of a key is the row of its group
  row-shown : (k : Row) → shown_row aggregates k (group k).kept ≡ group_row aggregates k (rows_of_key columns k xs)
  row-shown k = group-shows aggregates k (rows_of_key columns k xs) (group k) (filtered-bag (λ r. same_row (key_of columns r) k) xs bag) (stand k)

  -- the keys that are listed are those that occur
  keys-listed : (keys : List Row) → ListsKeys keys (Groups group) → SameBag (once_each keys) (distinct (projected (key_of columns) xs))
  keys-listed keys lists = record {
    at = λ k.
        lists k ∙ ap (λ n. cond (int_lt (pos 0) n) (pos 1) (pos 0)) ((stand k).count ∙ sym (key-weight columns k xs))
        ∙ sym (weight_of-distinct (projected (key_of columns) xs) k);
  }

  -- so the groups are shown
  groups-shown : (keys : List Row) → ListsKeys keys (Groups group) → SameBag (once_each (map (λ k. shown_row aggregates k (group k).kept) keys)) (grouped (Some columns) aggregates xs)
  groups-shown keys lists =
      let f : Row → Row = λ k. shown_row aggregates k (group k).kept in
      let g : Row → Row = λ k. group_row aggregates k (rows_of_key columns k xs) in
      let by_keys = projected-respects f (once_each keys) (distinct (projected (key_of columns) xs)) (keys-listed keys lists) in
      let by_rows = projected-same f g row-shown (distinct (projected (key_of columns) xs)) in
      record { at = λ r. rw (once_each-map f keys, once_each-map g (keys_of columns xs)) (by_keys.at r ∙ by_rows.at r) }

-- what HAVING and the items make of groups depends on their bag alone
shown-same : (q : Query) (having : Option Cond) (xs ys : Weighted) → SameBag xs ys → SameBag (projected (items_of q.items) (filtered (keeps having) xs)) (projected (items_of q.items) (filtered (keeps having) ys))
shown-same q having xs ys s = projected-respects (items_of q.items) (filtered (keeps having) xs) (filtered (keeps having) ys) (filtered-respects (keeps having) xs ys s)

-- what stands behind the joins shows the rows that the query shows
pub last-shown : (q : Query) (shape : Shape) (xs : Weighted) (keys : List Row) (last : Last) → IsBag xs → LastStands q shape xs last → ListsKeys keys last
    → SameBag (shown_rows q shape keys last) (projected (items_of q.items) (shaped shape xs))
last-shown q Plain xs keys (Images rows) bag stand lists = stand
last-shown q Plain xs keys (Groups group) bag stand lists = absurd stand
last-shown q (Grouped None aggregates having) xs keys (Images rows) bag stand lists = absurd stand
last-shown q (Grouped (Some columns) aggregates having) xs keys (Images rows) bag stand lists = absurd stand
last-shown q (Grouped None aggregates having) xs keys (Groups group) bag stand lists =
    let row = row-shown [] aggregates xs bag group stand [] ∙ ap (group_row aggregates []) (rows_of_no_key xs) in
    shown-same q having (once_each (shown_row aggregates [] (group []).kept ∷ [])) (grouped None aggregates xs)
    (subst (λ r. SameBag (once_each (shown_row aggregates [] (group []).kept ∷ [])) (once_each (r ∷ []))) row (same-refl (once_each (shown_row aggregates [] (group []).kept ∷ []))))
last-shown q (Grouped (Some columns) aggregates having) xs keys (Groups group) bag stand lists =
    shown-same q having (once_each (map (λ k. shown_row aggregates k (group k).kept) keys)) (grouped (Some columns) aggregates xs)
    (groups-shown columns aggregates xs bag group stand keys lists)
