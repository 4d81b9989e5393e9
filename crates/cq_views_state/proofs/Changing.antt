-- What changes of the joined rows add stays in range, where they are few and stored.
use Rattle.std.proofs.Common.{◌≡◌, ℕ, ℤ, ◌+◌, ◌<◌, ◌≤◌, ◌^◌, [], ◌∷◌, take, nat_abs, slice_get, zero, suc, Some, unwrap_or, refl, sym, ◌∙◌, ap, subst, arith}
use Rattle.std.specs.List.{AllByRecursion}
use Rattle.cq_values.specs.Value.{Row}
use Rattle.cq_model_bags.specs.Bag.{Weighted, SameBag, projected, weight_of}
use Rattle.cq_model_bags.specs.Size.{IsClean}
use Rattle.cq_deltas.proofs.Small.{small-hold}
use Rattle.cq_deltas.specs.Additions.{IsNarrow, additions}
use Rattle.cq_deltas.specs.Keyed.{HoldsFor, KeyedGroups, group_at}
use Rattle.cq_views_model.specs.Kept.{Groups, Images, LastStands}
use Rattle.cq_model.specs.Sizes.{IsStored, row_size, stored_size}
use Rattle.cq_model.specs.Meaning.{items_of, keeps}
use Rattle.cq_model.specs.Width.{AreNarrowAt, widest}
use Rattle.cq_model.specs.declared.query.Query.{Query}
use Rattle.cq_model.specs.declared.query.Shape.{Shape}
use Rattle.cq_model.specs.declared.query.Shape.TheVariants.{Plain, Grouped}
use Rattle.cq_deltas_joins.proofs.Sizes.{sizes-least}
use Rattle.cq_sides_weights.proofs.RowByRow.{sizes-projected, weight-size}
use Rattle.cq_sides_weights.specs.Held.{Held, StaysSmall, sizes}
use Rattle.cq_deltas_joins.proofs.Spans.{sizes-filtered}
use Rattle.cq_deltas_joins.proofs.Storing.{stored-filtered}
use Rattle.cq_deltas_joins.specs.Steps.{AreStored}
use Rattle.cq_views_state.proofs.Behind.{seen-stands}
use Rattle.cq_views_state.proofs.Moves.{counts-move, totals-move}
use Rattle.cq_views_state.proofs.Widths.{arguments-narrow, items-narrow}
use Rattle.cq_views_state.specs.Last.{AreImages, CanTakeIn, kept_rows, seen}
use Rattle.cq_views_model.specs.Query.{CanBeKept, aggregates_in, aggregates_of, key_columns, keys_in}
use Rattle.cq_views_state.specs.declared.last.Last.TheVariants as stored

-- ---- groups
groups-hold : (query : Query) (shape : Shape) (xs dxs : Weighted) (groups : KeyedGroups)
    → ((row : Row) → IsStored row → AllByRecursion (IsNarrow row) (aggregates_in shape)) → AreStored xs → AreStored dxs → sizes xs + sizes dxs ≤ 2 ^ 122
    → LastStands query shape xs (Groups (group_at (aggregates_in shape) groups))
    → HoldsFor (additions (keys_in shape) (aggregates_in shape) dxs) groups
groups-hold query Plain xs dxs groups narrow old more few stands = absurd stands
groups-hold query (Grouped keys aggregates having) xs dxs groups narrow old more few stands =
    let columns = unwrap_or keys [] in
    small-hold columns aggregates xs groups (additions columns aggregates dxs) stands (record {
      counts = omega (arith, few, counts-move columns aggregates xs, counts-move columns aggregates dxs);
      totals = omega (arith, few, totals-move columns aggregates narrow xs old, totals-move columns aggregates narrow dxs more);
    })

-- groups that stand for few stored rows hold for what few stored rows add
pub change-holds : (query : Query) (old new : KeyedGroups) (rows : Weighted) → CanBeKept query → CanTakeIn query (stored.Groups old) rows
    → seen (aggregates_of query) (stored.Groups new) ≡ seen (aggregates_of query) (stored.Groups old)
    → HoldsFor (additions (key_columns query) (aggregates_of query) (kept_rows query rows)) new
change-holds query old new rows can take same =
    let keep = keeps query.filter in
    groups-hold query query.shape take.xs (kept_rows query rows) new
    (λ row stored. arguments-narrow row stored (aggregates_of query) can.arguments) take.rows.0 (stored-filtered keep rows take.rows.1)
    (omega (arith, take.few, sizes-filtered keep rows)) (seen-stands query (stored.Groups old) (stored.Groups new) same take.xs take.stands)

-- ---- images
-- images stand for rows that are not grouped
pub plain-for : (query : Query) (shape : Shape) (xs images : Weighted) → LastStands query shape xs (Images images) → shape ≡ Plain
plain-for query Plain xs images stands = refl
plain-for query (Grouped keys aggregates having) xs images stands = absurd stands

-- and are the images of these
pub images-for : (query : Query) (shape : Shape) (xs images : Weighted) → LastStands query shape xs (Images images) → SameBag images (projected (items_of query.items) xs)
images-for query Plain xs images stands = stands
images-for query (Grouped keys aggregates having) xs images stands = absurd stands

module _ (query : Query) (old : Held) (rows : Weighted) (take : CanTakeIn query (stored.Images old) rows) where
  -- no weight leaves its range while few more are put in
  pub images-small : (new more : Held) → new.entries ≡ old.entries → IsClean more.entries → AreImages query (kept_rows query rows) more → StaysSmall more.entries new.entries
  images-small new more same clean are r =
      let f = items_of query.items in
      let kept = kept_rows query rows in
      let bag = images-for query query.shape take.xs old.entries take.stands in
      let here : weight_of new.entries r ≡ weight_of (projected f take.xs) r = ap (λ (zs : Weighted). weight_of zs r) same ∙ bag.at r in
      let most = weight-size (projected f take.xs) r in
      let weight : nat_abs (weight_of new.entries r) ≤ sizes (projected f take.xs) = subst (λ n. nat_abs n ≤ sizes (projected f take.xs)) (sym here) most in
      omega (
        arith,
        take.few,
        weight,
        sizes-projected f take.xs,
        sizes-least more.entries (projected f kept) clean are,
        sizes-projected f kept,
        sizes-filtered (keeps query.filter) rows,
      )

-- what stored rows have at a place is stored
pub stored-at : (xs : Weighted) (i : ℕ) (row : Row) (weight : ℤ) → slice_get xs i ≡ Some (row, weight) → AreStored xs → IsStored row
stored-at [] i row weight is stored = absurd (cc is)
stored-at (x ∷ xs) zero row weight is stored = subst (λ (r : Row). IsStored r) (cc is) stored.0
stored-at (x ∷ xs) (suc i) row weight is stored = stored-at xs i row weight is stored.1

-- in a stored row that is not grouped no item works out what is too wide
pub row-narrow : (query : Query) → CanBeKept query → query.shape ≡ Plain → (row : Row) → IsStored row → AreNarrowAt query.items row
row-narrow query can plain row stored =
    items-narrow (λ i. stored_size) row stored query.items
    (subst (λ (s : Shape). AllByRecursion (λ e. widest (row_size s) e < 2 ^ 127) query.items) plain can.items)
