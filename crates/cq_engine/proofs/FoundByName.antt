-- Tables and views that were found by their names.
use Rattle.std.proofs.Common.{◌≡◌, ℕ, ◌<◌, true, false, List, [], ◌∷◌, length, Option, Some, None, refl, sym, ap, ◌∙◌, arith, subst, Result, Ok, Err}
use Rattle.std.specs.Prelude.{◌==◌, IfSome, is_some, option_map, slice_get, unwrap_or, if◌then◌else◌}
use Rattle.std.specs.List.{AllByRecursion}
use Rattle.std.proofs.lemmas.Bool.{eq-eqb, ne_eqb}
use Rattle.std.proofs.lemmas.List.Quantifiers.{position-Some}
use Rattle.cq_values.specs.Texts.{is_text}
use Rattle.cq_values.specs.Value.{Row}
use Rattle.cq_model_bags.proofs.Totals.{by_test}
use Rattle.cq_model.specs.Sizes.{IsStored}
use Rattle.cq_binder_rules.specs.declared.fault.Fault.{Fault}
use Rattle.cq_binder_rules.specs.Bound.{rows_read, standing}
use Rattle.cq_binder_rules.specs.Records.{file_rows}
use Rattle.cq_model_state.specs.Fitting.{FitsColumns, AreFitting, IsFitting}
use Rattle.cq_model_state.specs.State.{IsThere, TableOf, ViewOf, columns_in, rows_in, table_named, view_named, view_place, AreNumbered}
use Rattle.cq_csvio_read.proofs.Fits.{rows_fit as file_rows_fit}
use Rattle.cq_binder_queries.proofs.Found.{has_place}
use Rattle.cq_engine_tables.proofs.Numbers.{Above}
use Rattle.cq_engine_tables.proofs.Places.{found_there}
use Rattle.cq_engine_tables.proofs.Stored.{rows_stored}

-- what an optional value is mapped to
pub mapped : {X Y : Type 0} (f : X → Y) (o : Option X) (y : Y) → option_map f o ≡ Some y → (x : X) × (o ≡ Some x) × (f x ≡ y)
mapped f (Some x) y e = (x, refl, cc e)
mapped f None y e = absurd (cc e)

-- ---- Tables that were found by their names
module _ (name : List ℕ) (t : TableOf) where
  -- one that is found among those above a number is above it
  found_above : (n : ℕ) (ts : List TableOf) → Above n ts → table_named name ts ≡ Some t → n < t.number
  found_above n [] above found = absurd (cc found)
  found_above n (x ∷ ts) above found = by_test (is_text x.name name)
      (λ k. let same : x ≡ t = cc in subst (λ (y : TableOf). n < y.number) same above.0)
      (λ k. found_above n ts above.1 (rw k at found))

  -- what each table has, looked up by its number
  module _ {X : Type 0} (of : TableOf → X) (among : List TableOf → ℕ → X) (first : (x : TableOf) (ts : List TableOf) (n : ℕ) → among (x ∷ ts) n ≡ (if x.number == n then of x else among ts n)) where
    at-number : (ts : List TableOf) (next : ℕ) → AreNumbered ts next → table_named name ts ≡ Some t → among ts t.number ≡ of t
    at-number [] next numbered found = absurd (cc found)
    at-number (x ∷ ts) next numbered found = by_test (is_text x.name name)
        (λ k.
        let same : x ≡ t = cc in
        let its_own : (if x.number == x.number then of x else among ts x.number) ≡ of x = rw (eq-eqb x.number x.number refl) refl in
        subst (λ (y : TableOf). among (x ∷ ts) y.number ≡ of y) same (first x ts x.number ∙ its_own))
        (λ k.
        let later = rw k at found in
        let other : (x.number == t.number) ≡ false = ne_eqb x.number t.number (λ e. absurd (omega (arith, e, found_above x.number ts numbered.1 later))) in
        let behind : (if x.number == t.number then of x else among ts t.number) ≡ of t = rw other (at-number ts next numbered.2 later) in
        first x ts t.number ∙ behind)

  -- its number has its rows
  pub rows-found : (ts : List TableOf) (next : ℕ) → AreNumbered ts next → table_named name ts ≡ Some t → rows_in ts t.number ≡ t.rows
  rows-found = at-number (λ u. u.rows) rows_in (λ x ts n. refl)

  -- and its columns
  pub columns-found : (ts : List TableOf) (next : ℕ) → AreNumbered ts next → table_named name ts ≡ Some t → columns_in ts t.number ≡ t.columns
  columns-found = at-number (λ u. u.columns) columns_in (λ x ts n. refl)

  -- its number is there
  pub there-found : (ts : List TableOf) → table_named name ts ≡ Some t → IsThere t.number ts
  there-found [] found = absurd (cc found)
  there-found (x ∷ ts) found = by_test (is_text x.name name)
      (λ k. let same : x ≡ t = cc in subst (λ (y : TableOf). IsThere y.number (x ∷ ts)) same (rw (eq-eqb x.number x.number refl) refl))
      (λ k. by_test (x.number == t.number) (λ j. rw j refl) (λ j. rw j (there-found ts (rw k at found))))

  -- no number in its rows is larger than a stored one can be
  pub stored-found : (ts : List TableOf) → AreFitting ts → table_named name ts ≡ Some t → AllByRecursion IsStored t.rows
  stored-found [] fitting found = absurd (cc found)
  stored-found (x ∷ ts) fitting found = by_test (is_text x.name name)
      (λ k. let same : x ≡ t = cc in subst (λ (y : TableOf). AllByRecursion IsStored y.rows) same (rows_stored x.columns x.rows fitting.0))
      (λ k. stored-found ts fitting.1 (rw k at found))

  -- its rows fit its columns
  pub fits-found : (ts : List TableOf) → AreFitting ts → table_named name ts ≡ Some t → IsFitting t
  fits-found [] fitting found = absurd (cc found)
  fits-found (x ∷ ts) fitting found = by_test (is_text x.name name)
      (λ k. let same : x ≡ t = cc in subst IsFitting same fitting.0)
      (λ k. fits-found ts fitting.1 (rw k at found))

-- ---- Views that were found by their names
-- a view that has a place is among them
pub within_views : (name : List ℕ) (views : List ViewOf) (place : ℕ) → view_place name views ≡ Some place → place < length views
within_views name [] place found = absurd (cc found)
within_views name (v ∷ vs) place found = (position-Some (λ w. is_text w.name name) (v ∷ vs) place v found).0

-- the view of a name stands at the place of the name
pub view_at_place : (name : List ℕ) (views : List ViewOf) (v : ViewOf) → view_named name views ≡ Some v → slice_get views (unwrap_or (view_place name views) 0) ≡ Some v
view_at_place name views v named = at_place (view_place name views) refl
  where
    at_place : (o : Option ℕ) → view_place name views ≡ o → slice_get views (unwrap_or (view_place name views) 0) ≡ Some v
    at_place (Some i) is =
        let there : slice_get views i ≡ view_named name views = subst (λ (p : Option ℕ). IfSome p (λ j. slice_get views j ≡ view_named name views)) is (found_there (λ w. is_text w.name name) views) in
        ap (λ (p : Option ℕ). slice_get views (unwrap_or p 0)) is ∙ there ∙ named
    at_place None is = absurd (let both : false ≡ true = sym (ap is_some is) ∙ has_place name views ∙ ap is_some named in cc)

-- the rows that were read of a file fit their table
pub read_fit : (t : TableOf) (bytes : List ℕ) → AllByRecursion (FitsColumns t.columns) (rows_read t bytes)
read_fit t bytes = of_rows (file_rows t.columns bytes) refl
  where
    of_rows : (r : Result (List Row) Fault) → file_rows t.columns bytes ≡ r → AllByRecursion (FitsColumns t.columns) (unwrap_or (standing r) [])
    of_rows (Ok rows) is = file_rows_fit t.columns bytes rows is
    of_rows (Err f) is = tt
