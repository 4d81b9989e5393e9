-- The rows that a view shows are within the sizes of its columns, and no item works out what is too wide on the way.
use Rattle.std.proofs.Common.{◌≡◌, ℕ, ◌≤◌, Bool, true, pos, int_lt, List, [], ◌∷◌, ◌++◌, map, None, Some, sym, ◌∙◌, ap, subst, arith}
use Rattle.std.specs.List.{AllByRecursion}
use Rattle.cq_values.specs.Order.{same_row}
use Rattle.cq_values.specs.Value.{Row}
use Rattle.cq_model_bags.specs.Bag.{SameBag, IsBag, Weighted, distinct_rows, filtered, once_each, projected, weight_of}
use Rattle.cq_model_bags.proofs.Bags.{same-trans}
use Rattle.cq_model_bags.proofs.Distincts.{is_among-distinct}
use Rattle.cq_model_bags.proofs.Positives.{filtered-bag}
use Rattle.cq_views_model.specs.Kept.{GroupStands, Groups, LastStands, shown_row}
use Rattle.cq_views_model.specs.Shown.{ListsKeys}
use Rattle.cq_model_laws.proofs.Counted.{group-shows}
use Rattle.cq_model_laws.proofs.Fits.{FitBeside, beside-append, beside-at}
use Rattle.cq_model_laws.proofs.Ranges.{all-at, all-from}
use Rattle.cq_model_laws.specs.Sizes.{HasSizes}
use Rattle.cq_model.specs.Sizes.{IsSized, IsStored, column_sizes, count_size, row_size, shown_size, stored_size}
use Rattle.cq_model.specs.Group.{SumInRange, aggregate, group_row, key_of, keys_of, rows_of_key}
use Rattle.cq_model.specs.Meaning.{items_of}
use Rattle.cq_model.specs.Width.{AreNarrowAt}
use Rattle.cq_model.specs.declared.query.Aggregate.{Aggregate}
use Rattle.cq_model.specs.declared.query.Query.{Query}
use Rattle.cq_model.specs.declared.query.Shape.{Shape}
use Rattle.cq_model.specs.declared.query.Shape.TheVariants.{Plain, Grouped}
use Rattle.cq_sides_weights.specs.Held.{Held, sizes}
use Rattle.cq_deltas_joins.proofs.Spans.{sizes-filtered}
use Rattle.cq_deltas_joins.proofs.Storing.{stored-filtered}
use Rattle.cq_deltas_joins.specs.Steps.{AreStored}
use Rattle.cq_deltas.specs.Keyed.{KeyedGroups, group_at}
use Rattle.cq_deltas.specs.Shown.{GroupsCanBeShown, counted_keys}
use Rattle.cq_views_state.proofs.Changing.{images-for, plain-for}
use Rattle.cq_views_state.proofs.Fitting.{all-shown-fit}
use Rattle.cq_views_state.proofs.Groups.{in-range, occurs, one-in-range, one-row}
use Rattle.cq_views_state.proofs.Listing.{listed-once}
use Rattle.cq_views_state.proofs.Widths.{items-narrow, items-sized}
use Rattle.cq_views_model.specs.Query.{CanBeKept, aggregates_in, aggregates_of}
use Rattle.cq_views_state.specs.Shown.{StandsOnStored, all_rows}
use Rattle.cq_views_state.specs.declared.last.Last.TheVariants as stored
use Rattle.cq_model_bags.proofs.Lists.{all-map, all-weaker}
use Rattle.cq_model_bags.proofs.Sizes.{listed-all}
use Rattle.cq_model.proofs.Occurring.{IsRowOf, row-to-test}

-- ---- keys
-- a key of so many columns is of stored numbers
abbrev KeyFits : List ℕ → Row → Type 0
KeyFits columns k = FitBeside k (map (λ c. stored_size) columns)

key-fits : (columns : List ℕ) (row : Row) → IsStored row → KeyFits columns (key_of columns row)
key-fits [] row stored = tt
key-fits (c ∷ columns) row stored = (stored c, key-fits columns row stored)

keys-fit : (columns : List ℕ) (xs : Weighted) → AreStored xs → AllByRecursion (λ y. KeyFits columns y.0) (projected (key_of columns) xs)
keys-fit columns [] stored = tt
keys-fit columns (x ∷ xs) stored = (key-fits columns x.0 stored.0, keys-fit columns xs stored.1)

-- so it is with each key that occurs
occurs-fits : (columns : List ℕ) (xs : Weighted) → AreStored xs → (k : Row) → IsRowOf k (keys_of columns xs) → KeyFits columns k
occurs-fits columns xs stored k among =
    let ys = projected (key_of columns) xs in
    let there : int_lt (pos 0) (weight_of ys k) ≡ true = sym (is_among-distinct ys k) ∙ row-to-test k (distinct_rows ys) among in
    listed-all (KeyFits columns) ys k (keys-fit columns xs stored) (λ none. absurd (let e = sym there ∙ ap (int_lt (pos 0)) none in cc))

-- ---- groups
-- rows that a condition keeps are no more than all
fewer : (keep : Row → Bool) (xs : Weighted) → sizes xs ≤ count_size → sizes (filtered keep xs) ≤ count_size
fewer keep xs few = omega (arith, few, sizes-filtered keep xs)

module _ (aggregates : List Aggregate) (groups : KeyedGroups) (xs : Weighted) (bag : IsBag xs) (stored : AreStored xs) (few : sizes xs ≤ count_size)
    (lists : ListsKeys (counted_keys groups) (Groups (group_at aggregates groups))) (can : GroupsCanBeShown aggregates groups) where
  -- the row of all rows fits
  one-fits : ((k : Row) → GroupStands aggregates (rows_of_key [] k xs) (group_at aggregates groups k))
      → FitBeside (group_row aggregates [] xs) (map shown_size aggregates)
  one-fits stands = all-shown-fit xs bag stored few aggregates (one-in-range aggregates groups xs bag lists stands can)

  module _ (columns : List ℕ) (stands : (k : Row) → GroupStands aggregates (rows_of_key columns k xs) (group_at aggregates groups k)) where
    -- and the row of each key
    key-row-fits : (k : Row) → IsRowOf k (counted_keys groups)
        → FitBeside (shown_row aggregates k (group_at aggregates groups k).kept) (map (λ c. stored_size) columns ++ map shown_size aggregates)
    key-row-fits k among =
        let keep : Row → Bool = λ r. same_row (key_of columns r) k in
        let own = rows_of_key columns k xs in
        let there = occurs columns aggregates groups xs lists stands k among in
        let sums = all-at (λ q. AllByRecursion (λ a. SumInRange a (rows_of_key columns q xs)) aggregates) (keys_of columns xs)
        (in-range columns aggregates groups xs lists stands can) k there in
        let shown = all-shown-fit own (filtered-bag keep xs bag) (stored-filtered keep xs stored) (fewer keep xs few) aggregates sums in
        let is : shown_row aggregates k (group_at aggregates groups k).kept ≡ group_row aggregates k own =
        group-shows aggregates k own (group_at aggregates groups k) (filtered-bag keep xs bag) (stands k) in
        subst (λ (row : Row). FitBeside row (map (λ c. stored_size) columns ++ map shown_size aggregates)) (sym is)
        (beside-append k (map (λ c. stored_size) columns) (map (λ a. aggregate a own) aggregates) (map shown_size aggregates)
        (occurs-fits columns xs stored k there) shown)

module _ (query : Query) (groups : KeyedGroups) where
  -- the rows of a shape's groups are within its sizes
  abbrev AllSized : Shape → Type 0
  AllSized shape = AllByRecursion (IsSized (row_size shape)) (all_rows shape groups)

  sized-by_shape : (shape : Shape) → ListsKeys (counted_keys groups) (Groups (group_at (aggregates_in shape) groups))
      → GroupsCanBeShown (aggregates_in shape) groups → (xs : Weighted) → IsBag xs → AreStored xs → sizes xs ≤ count_size
      → LastStands query shape xs (Groups (group_at (aggregates_in shape) groups)) → AllSized shape
  sized-by_shape Plain lists can xs bag stored few stand = absurd stand
  sized-by_shape (Grouped None aggregates having) lists can xs bag stored few stand =
      let fits = one-fits aggregates groups xs bag stored few lists can stand in
      subst (λ (rows : List Row). AllByRecursion (IsSized (row_size (Grouped None aggregates having))) rows) (sym (one-row aggregates groups xs bag lists stand))
      (beside-at (group_row aggregates [] xs) (map shown_size aggregates) fits, tt)
  sized-by_shape (Grouped (Some keys) aggregates having) lists can xs bag stored few stand =
      let row : Row → Row = λ k. shown_row aggregates k (group_at aggregates groups k).kept in
      let wide = row_size (Grouped (Some keys) aggregates having) in
      let fits = key-row-fits aggregates groups xs bag stored few lists can keys stand in
      all-map (λ k. IsSized wide (row k)) (IsSized wide) row (λ k h. h) (counted_keys groups)
      (all-from (λ k. IsSized wide (row k)) (counted_keys groups) (λ k among.
      beside-at (row k) (map (λ c. stored_size) keys ++ map shown_size aggregates) (fits k among)))

  module _ (on : StandsOnStored query (stored.Groups groups)) (lists : ListsKeys (counted_keys groups) (Groups (group_at (aggregates_of query) groups)))
      (showable : GroupsCanBeShown (aggregates_of query) groups) where
    all-sized : AllSized query.shape
    all-sized = sized-by_shape query.shape lists showable on.xs on.bag on.stored on.few on.stands

    -- so no item works out what is too wide over them
    pub all-narrow : CanBeKept query → AllByRecursion (AreNarrowAt query.items) (all_rows query.shape groups)
    all-narrow can =
        all-weaker (IsSized (row_size query.shape)) (AreNarrowAt query.items)
        (λ row sized. items-narrow (row_size query.shape) row sized query.items can.items) (all_rows query.shape groups) all-sized

    -- and what is shown of them is within the sizes of the columns
    pub groups-sized : (rows : List Row) → rows ≡ map (items_of query.items) (all_rows query.shape groups)
        → AllByRecursion (HasSizes (column_sizes query)) rows
    groups-sized rows is =
        subst (λ (rs : List Row). AllByRecursion (HasSizes (column_sizes query)) rs) (sym is)
        (all-map (IsSized (row_size query.shape)) (HasSizes (column_sizes query)) (items_of query.items)
        (λ row sized. items-sized (row_size query.shape) row sized query.items) (all_rows query.shape groups) all-sized)

-- ---- images
images-fit : (query : Query) → query.shape ≡ Plain → (xs : Weighted) → AreStored xs
    → AllByRecursion (λ y. HasSizes (column_sizes query) y.0) (projected (items_of query.items) xs)
images-fit query plain [] stored = tt
images-fit query plain (x ∷ xs) stored =
    let sized : IsSized (row_size query.shape) x.0 = subst (λ (s : Shape). IsSized (row_size s) x.0) (sym plain) stored.0 in
    (items-sized (row_size query.shape) x.0 sized query.items, images-fit query plain xs stored.1)

-- images of stored rows are within the sizes of the columns, and so are the rows that are listed of them
pub images-sized : (query : Query) (images : Held) (rows : List Row) → SameBag (once_each rows) images.entries
    → StandsOnStored query (stored.Images images) → AllByRecursion (HasSizes (column_sizes query)) rows
images-sized query images rows same on =
    let shown = projected (items_of query.items) on.xs in
    let plain = plain-for query query.shape on.xs images.entries on.stands in
    let bag = images-for query query.shape on.xs images.entries on.stands in
    listed-once (HasSizes (column_sizes query)) rows shown
    (same-trans (once_each rows) images.entries shown same bag) (images-fit query plain on.xs on.stored)
