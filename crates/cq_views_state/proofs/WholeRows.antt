-- Items that are columns, each at its place, show a row of so many values as it is.
use Rattle.std.proofs.Common.{◌≡◌, ℕ, ◌+◌, ◌<◌, Bool, true, false, List, [], ◌∷◌, length, map, get_or, Some, slice_get, refl, sym, ◌∙◌, ap, ap₂, subst, arith}
use Rattle.std.specs.Prelude.{nat_lt}
use Rattle.std.specs.Bool.{OnTrue}
use Rattle.std.specs.List.{AllByRecursion}
use Rattle.std.proofs.lemmas.Bool.{ltb-false, ltb-true}
use Rattle.std.proofs.lemmas.List.{ext_get_or, get_or-map, length-map}
use Rattle.std.proofs.lemmas.Option.{get_or_from_slice_get}
use Rattle.cq_values.specs.declared.value.Value.TheVariants.{Null}
use Rattle.cq_values.specs.Value.{Row}
use Rattle.cq_model_bags.proofs.Totals.{by_test}
use Rattle.cq_model.specs.Eval.{eval}
use Rattle.cq_model.specs.Expr.{Expr, Column}
use Rattle.cq_model.specs.Meaning.{items_of}
use Rattle.cq_views_state.specs.WholeRows.{AreColumns}

-- with the next item a column at its place, one more is
pub column-more : (items : List Expr) (n : ℕ) → ((i : ℕ) → i < n → slice_get items i ≡ Some (Column i)) → slice_get items n ≡ Some (Column n)
    → (i : ℕ) → i < n + 1 → slice_get items i ≡ Some (Column i)
column-more items n so_far here i h = by_test (nat_lt i n)
    (λ before. so_far i (ltb-true i n before))
    (λ behind.
    let past = ltb-false i n behind in
    let last : n ≡ i = omega arith in
    subst (λ (k : ℕ). slice_get items k ≡ Some (Column k)) last here)

module _ (items : List Expr) (are : AreColumns items) where
  -- the value of each item is that of its column
  value-at : (row : Row) (i : ℕ) → i < length items → get_or (items_of items row) i Null ≡ get_or row i Null
  value-at row i inside =
      get_or-map (λ (e : Expr). eval e row) items i (Column 0) Null inside
      ∙ ap (λ (e : Expr). eval e row) (get_or_from_slice_get items i (Column i) (Column 0) (are i inside))

  row-shown : (row : Row) → length row ≡ length items → items_of items row ≡ row
  row-shown row wide =
      let long : length (items_of items row) ≡ length items = length-map items (λ (e : Expr). eval e row) in
      ext_get_or Null (items_of items row) row (long ∙ sym wide) (λ i inside. value-at row i (omega (arith, inside, long)))

  rows-shown : (rows : List Row) → AllByRecursion (λ row. length row ≡ length items) rows → map (items_of items) rows ≡ rows
  rows-shown [] wide = refl
  rows-shown (row ∷ rows) wide = ap₂ (λ (r : Row) (rs : List Row). r ∷ rs) (row-shown row wide.0) (rows-shown rows wide.1)

  -- so rows of so many values are all shown as they are
  pub shown-where : (rows : List Row) (wide : Bool) → OnTrue wide (AllByRecursion (λ row. length row ≡ length items) rows) → OnTrue wide (map (items_of items) rows ≡ rows)
  shown-where rows true are = rows-shown rows are
  shown-where rows false are = tt
