-- The rows of tables by their numbers, where one table is written, made or taken away.
use Rattle.std.proofs.Common.{◌≡◌, ℕ, zero, suc, ◌<◌, ◌≤◌, Bool, true, false, List, [], ◌∷◌, ◌++◌, length, get_or, set, refl, sym, ap, ◌∙◌, arith, subst}
use Rattle.std.specs.Prelude.{◌==◌, ◌||◌}
use Rattle.std.specs.List.{AllByRecursion, list_any}
use Rattle.std.proofs.lemmas.Bool.{eq-eqb, eqb-false, eqb-true, ne_eqb}
use Rattle.cq_values.specs.Value.{Row}
use Rattle.cq_model_bags.proofs.Canonicals.{length-bag_of}
use Rattle.cq_model_bags.proofs.Totals.{by_test}
use Rattle.cq_model.specs.Views.{is_table}
use Rattle.cq_model.specs.declared.query.Source.{Source}
use Rattle.cq_binder_rules.specs.Refusal.{is_used}
use Rattle.cq_model_state.specs.Fitting.{FitsColumns, AreLimited, AreFitting}
use Rattle.cq_model_state.specs.State.{TableOf, columns_in, rows_in, with_rows, AreNumbered}
use Rattle.cq_views_model.specs.Query.{reads}
use Rattle.cq_engine_tables.specs.Views.{NamedView, views_of}
use Rattle.cq_engine_tables.proofs.Numbers.{Above, above_at, above_stay, others}
use Rattle.cq_table.proofs.RowLists.{all_of_bag}

-- ---- A table in the place of one of its number
module _ (u d : TableOf) where
  -- its number has its rows
  pub rows_at : (ts : List TableOf) (i : ℕ) (next : ℕ) → AreNumbered ts next → i < length ts → u.number ≡ (get_or ts i d).number → rows_in (set ts i u) u.number ≡ u.rows
  rows_at [] i next numbered h same = absurd (omega (arith, h))
  rows_at (x ∷ xs) zero next numbered h same = rw (eq-eqb u.number u.number refl) refl
  rows_at (x ∷ xs) (suc i) next numbered h same =
      let inside : i < length xs = omega (arith, h) in
      let other : (x.number == u.number) ≡ false = ne_eqb x.number u.number (λ e. absurd (omega (arith, e, same, above_at x.number xs i d numbered.1 inside))) in
      rw other (rows_at xs i next numbered.2 inside same)

  -- the others have theirs
  pub rows_elsewhere : (ts : List TableOf) (i : ℕ) → i < length ts → u.number ≡ (get_or ts i d).number → (n : ℕ) → (n == u.number) ≡ false → rows_in (set ts i u) n ≡ rows_in ts n
  rows_elsewhere [] i h same n other = refl
  rows_elsewhere (x ∷ xs) zero h same n other =
      let first : (u.number == n) ≡ false = ne_eqb u.number n (λ e. eqb-false n u.number other (sym e)) in
      let second : (x.number == n) ≡ false = ne_eqb x.number n (λ e. eqb-false n u.number other (sym e ∙ sym same)) in
      rw (first, second) refl
  rows_elsewhere (x ∷ xs) (suc i) h same n other = by_test (x.number == n)
      (λ k. rw k refl)
      (λ k. rw k (rows_elsewhere xs i (omega (arith, h)) same n other))

-- what the rows of all tables have, those of a number have
pub rows_have : (P : List Row → Type 0) → P [] → (tables : List TableOf) (n : ℕ) → AllByRecursion (λ t. P t.rows) tables → P (rows_in tables n)
rows_have P none [] n all = none
rows_have P none (t ∷ tables) n all = by_test (t.number == n)
    (λ k. rw k all.0)
    (λ k. rw k (rows_have P none tables n all.1))

-- the number of one of the tables has its rows
pub rows_there : (ts : List TableOf) (i : ℕ) (d : TableOf) (next : ℕ) → AreNumbered ts next → i < length ts → rows_in ts (get_or ts i d).number ≡ (get_or ts i d).rows
rows_there [] i d next numbered h = absurd (omega (arith, h))
rows_there (x ∷ xs) zero d next numbered h = rw (eq-eqb x.number x.number refl) refl
rows_there (x ∷ xs) (suc i) d next numbered h =
    let inside : i < length xs = omega (arith, h) in
    let other : (x.number == (get_or xs i d).number) ≡ false = ne_eqb x.number (get_or xs i d).number (λ e. absurd (omega (arith, e, above_at x.number xs i d numbered.1 inside))) in
    rw other (rows_there xs i d next numbered.2 inside)

-- so has a number that it has
pub rows_numbered : (ts : List TableOf) (i : ℕ) (t : TableOf) (next n : ℕ) → AreNumbered ts next → i < length ts → t ≡ get_or ts i t → (get_or ts i t).number ≡ n → rows_in ts n ≡ t.rows
rows_numbered ts i t next n numbered h is number = ap (rows_in ts) (sym number) ∙ rows_there ts i t next numbered h ∙ ap (λ (y : TableOf). y.rows) (sym is)

-- and its columns
pub columns_there : (ts : List TableOf) (i : ℕ) (d : TableOf) (next : ℕ) → AreNumbered ts next → i < length ts → columns_in ts (get_or ts i d).number ≡ (get_or ts i d).columns
columns_there [] i d next numbered h = absurd (omega (arith, h))
columns_there (x ∷ xs) zero d next numbered h = rw (eq-eqb x.number x.number refl) refl
columns_there (x ∷ xs) (suc i) d next numbered h =
    let inside : i < length xs = omega (arith, h) in
    let other : (x.number == (get_or xs i d).number) ≡ false = ne_eqb x.number (get_or xs i d).number (λ e. absurd (omega (arith, e, above_at x.number xs i d numbered.1 inside))) in
    rw other (columns_there xs i d next numbered.2 inside)

pub columns_numbered : (ts : List TableOf) (i : ℕ) (t : TableOf) (next n : ℕ) → AreNumbered ts next → i < length ts → t ≡ get_or ts i t → (get_or ts i t).number ≡ n → columns_in ts n ≡ t.columns
columns_numbered ts i t next n numbered h is number = ap (columns_in ts) (sym number) ∙ columns_there ts i t next numbered h ∙ ap (λ (y : TableOf). y.columns) (sym is)

-- ---- Rows that fit their columns, and are not too many
module _ (n : ℕ) where
  -- those of a number fit its columns
  pub fitting_in : (ts : List TableOf) → AreFitting ts → AllByRecursion (FitsColumns (columns_in ts n)) (rows_in ts n)
  fitting_in [] fitting = tt
  fitting_in (x ∷ xs) fitting = by_test (x.number == n)
      (λ k. rw k fitting.0)
      (λ k. rw k (fitting_in xs fitting.1))

  module _ (rows : List Row) where
    -- tables whose rows fit are left where these fit, and are put into one of them
    pub fitting-with_rows : (ts : List TableOf) (next : ℕ) → AreNumbered ts next → AreFitting ts → AllByRecursion (FitsColumns (columns_in ts n)) rows → AreFitting (with_rows n rows ts)
    fitting-with_rows [] next numbered fitting own = tt
    fitting-with_rows (x ∷ xs) next numbered fitting own = by_test (x.number == n)
        (λ k.
        let above : Above n xs = subst (λ m. Above m xs) (eqb-true x.number n k) numbered.1 in
        rw (k, above_stay n rows xs above) (all_of_bag (FitsColumns x.columns) rows (rw k at own), fitting.1))
        (λ k. rw k (fitting.0, fitting-with_rows xs next numbered.2 fitting.1 (rw k at own)))

    -- none has too many where these are not too many
    pub bounded-with_rows : (most : ℕ) (ts : List TableOf) → length rows ≤ most → AreLimited most ts → AreLimited most (with_rows n rows ts)
    bounded-with_rows most [] few bounded = tt
    bounded-with_rows most (x ∷ xs) few bounded = by_test (x.number == n)
        (λ k. rw k (omega (arith, few, length-bag_of rows), bounded-with_rows most xs few bounded.1))
        (λ k. rw k (bounded.0, bounded-with_rows most xs few bounded.1))

-- a greater bound holds too
pub bounded_more : (few most : ℕ) (ts : List TableOf) → few ≤ most → AreLimited few ts → AreLimited most ts
bounded_more few most [] le bounded = tt
bounded_more few most (x ∷ xs) le bounded = (omega (arith, le, bounded.0), bounded_more few most xs le bounded.1)

-- ---- A table without rows behind the others
pub rows_before : (ts : List TableOf) (t : TableOf) (n : ℕ) → t.rows ≡ [] → rows_in (ts ++ t ∷ []) n ≡ rows_in ts n
rows_before [] t n none = by_test (t.number == n) (λ k. rw k none) (λ k. rw k refl)
rows_before (x ∷ xs) t n none = by_test (x.number == n) (λ k. rw k refl) (λ k. rw k (rows_before xs t n none))

-- ---- One table fewer
module _ (n : ℕ) where
  -- the other numbers have their rows
  pub rows_left : (ts : List TableOf) (m : ℕ) → (m == n) ≡ false → rows_in (others n ts) m ≡ rows_in ts m
  rows_left [] m other = refl
  rows_left (x ∷ xs) m other = by_test (x.number == n)
      (λ k.
      let first : (x.number == m) ≡ false = ne_eqb x.number m (λ e. eqb-false m n other (sym e ∙ eqb-true x.number n k)) in
      rw (k, first) (rows_left xs m other))
      (λ k. rw k (by_test (x.number == m) (λ j. rw j refl) (λ j. rw j (rows_left xs m other))))

  -- what all have, those that are left have
  pub all_left : (P : TableOf → Type 0) (ts : List TableOf) → AllByRecursion P ts → AllByRecursion P (others n ts)
  all_left P [] all = tt
  all_left P (x ∷ xs) all = by_test (x.number == n)
      (λ k. rw k (all_left P xs all.1))
      (λ k. rw k (all.0, all_left P xs all.1))

-- ---- Tables that no view reads
-- a query that does not read the table of a number reads no source that is it
unread_both : (n : ℕ) (s : Source) (sources : List Source) (b c : Bool) → is_table n s ≡ b → list_any (is_table n) sources ≡ c → (b || c) ≡ false → (is_table n s ≡ false) × (list_any (is_table n) sources ≡ false)
unread_both n s sources false false e k none = (e, k)
unread_both n s sources true c e k none = absurd (cc none)
unread_both n s sources false true e k none = absurd (cc none)

pub unread : (n : ℕ) (sources : List Source) → list_any (is_table n) sources ≡ false → AllByRecursion (λ s. is_table n s ≡ false) sources
unread n [] free = tt
unread n (s ∷ sources) free =
    let p = unread_both n s sources (is_table n s) (list_any (is_table n) sources) refl refl free in
    (p.0, unread n sources p.1)

unused_both : (n : ℕ) (v : NamedView) (vs : List NamedView) (b c : Bool) → reads n v.kept.query ≡ b → is_used n (views_of vs) ≡ c → (b || c) ≡ false → (reads n v.kept.query ≡ false) × (is_used n (views_of vs) ≡ false)
unused_both n v vs false false e k none = (e, k)
unused_both n v vs true c e k none = absurd (cc none)
unused_both n v vs false true e k none = absurd (cc none)

-- no view reads an unused table
pub unused : (n : ℕ) (vs : List NamedView) → is_used n (views_of vs) ≡ false → AllByRecursion (λ v. reads n v.kept.query ≡ false) vs
unused n [] free = tt
unused n (v ∷ vs) free =
    let p = unused_both n v vs (reads n v.kept.query) (is_used n (views_of vs)) refl refl free in
    (p.0, unused n vs p.1)
