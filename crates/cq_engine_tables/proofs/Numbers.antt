-- Tables by their numbers: a table's number is that of no other.
use Rattle.std.proofs.Common.{◌≡◌, ℕ, zero, suc, ◌+◌, ◌<◌, false, not, List, [], ◌∷◌, ◌++◌, length, get_or, set, refl, sym, ap, ◌∙◌, arith, subst}
use Rattle.std.specs.Prelude.{◌==◌, filter}
use Rattle.std.specs.List.{AllByRecursion, remove}
use Rattle.std.proofs.lemmas.Bool.{eq-eqb, ne_eqb}
use Rattle.cq_values.specs.Value.{Row}
use Rattle.cq_model_bags.proofs.Totals.{by_test}
use Rattle.cq_model_state.specs.State.{TableOf, with_rows, holding, AreNumbered}

-- tables with numbers above another
abbrev pub Above : ℕ → List TableOf → Type 0
Above n ts = AllByRecursion (λ u. n < u.number) ts

-- a table that is read at a place behind others is above them
pub above_at : (n : ℕ) (ts : List TableOf) (i : ℕ) (d : TableOf) → Above n ts → i < length ts → n < (get_or ts i d).number
above_at n [] i d above h = absurd (omega (arith, h))
above_at n (x ∷ xs) zero d above h = above.0
above_at n (x ∷ xs) (suc i) d above h = above_at n xs i d above.1 (omega (arith, h))

-- ---- Other rows
module _ (n : ℕ) (all : List Row) where
  -- tables with greater numbers stay as they are
  pub above_stay : (ts : List TableOf) → Above n ts → with_rows n all ts ≡ ts
  above_stay [] above = refl
  above_stay (x ∷ ts) above =
      let other : (x.number == n) ≡ false = ne_eqb x.number n (λ e. absurd (omega (arith, e, above.0))) in
      rw other (ap (λ (xs : List TableOf). x ∷ xs) (above_stay ts above.1))

  -- new rows in the table at the place of a number are new rows in the table of the number
  pub set-number : (ts : List TableOf) (i next : ℕ) (t : TableOf) → AreNumbered ts next → i < length ts → t ≡ get_or ts i t → t.number ≡ n → set ts i (holding all t) ≡ with_rows n all ts
  set-number [] i next t numbered h at is = absurd (omega (arith, h))
  set-number (x ∷ xs) zero next t numbered h at is =
      let same : x.number ≡ n = ap (λ (u : TableOf). u.number) (sym at) ∙ is in
      let above : Above n xs = subst (λ m. Above m xs) same numbered.1 in
      rw (eq-eqb x.number n same) (λ j. holding all (at j) ∷ sym (above_stay xs above) j)
  set-number (x ∷ xs) (suc i) next t numbered h at is =
      let inside : i < length xs = omega (arith, h) in
      let other : (x.number == n) ≡ false = ne_eqb x.number n (λ e. absurd (omega (arith, e, is, ap (λ (u : TableOf). u.number) at, above_at x.number xs i t numbered.1 inside))) in
      rw other (ap (λ (ys : List TableOf). x ∷ ys) (set-number xs i next t numbered.2 inside at is))

-- ---- One table fewer
module _ (n : ℕ) where
  -- the tables of other numbers
  abbrev pub others : List TableOf → List TableOf
  others ts = filter (λ u. not (u.number == n)) ts

  -- tables with greater numbers are others
  above_kept : (ts : List TableOf) → Above n ts → others ts ≡ ts
  above_kept [] above = refl
  above_kept (x ∷ ts) above =
      let other : (x.number == n) ≡ false = ne_eqb x.number n (λ e. absurd (omega (arith, e, above.0))) in
      rw other (ap (λ (xs : List TableOf). x ∷ xs) (above_kept ts above.1))

  -- without the table at the place of the number the others are left
  pub remove-number : (ts : List TableOf) (i next : ℕ) (t : TableOf) → AreNumbered ts next → i < length ts → (get_or ts i t).number ≡ n → remove ts i ≡ others ts
  remove-number [] i next t numbered h is = absurd (omega (arith, h))
  remove-number (x ∷ xs) zero next t numbered h is =
      let above : Above n xs = subst (λ m. Above m xs) is numbered.1 in
      rw (eq-eqb x.number n is) (sym (above_kept xs above))
  remove-number (x ∷ xs) (suc i) next t numbered h is =
      let inside : i < length xs = omega (arith, h) in
      let other : (x.number == n) ≡ false = ne_eqb x.number n (λ e. absurd (omega (arith, e, is, above_at x.number xs i t numbered.1 inside))) in
      rw other (ap (λ (ys : List TableOf). x ∷ ys) (remove-number xs i next t numbered.2 inside is))

  -- numbers above another stay so
  above-others : (m : ℕ) (ts : List TableOf) → Above m ts → Above m (others ts)
  above-others m [] above = tt
  above-others m (x ∷ ts) above = by_test (x.number == n)
      (λ k. rw k (above-others m ts above.1))
      (λ k. rw k (above.0, above-others m ts above.1))

  -- the tables that are left have their numbers
  pub numbered-others : (ts : List TableOf) (next : ℕ) → AreNumbered ts next → AreNumbered (others ts) next
  numbered-others [] next numbered = tt
  numbered-others (x ∷ ts) next numbered = by_test (x.number == n)
      (λ k. rw k (numbered-others ts next numbered.2))
      (λ k. rw k (numbered.0, above-others x.number ts numbered.1, numbered-others ts next numbered.2))

-- ---- One table more
module _ (t : TableOf) where
  -- numbers above another stay so with a greater one behind them
  above-behind : (n : ℕ) (ts : List TableOf) → n < t.number → Above n ts → Above n (ts ++ t ∷ [])
  above-behind n [] lt above = (lt, tt)
  above-behind n (x ∷ ts) lt above = (above.0, above-behind n ts lt above.1)

  -- a table that draws the next number is numbered behind the others
  pub numbered-behind : (ts : List TableOf) → AreNumbered ts t.number → AreNumbered (ts ++ t ∷ []) (t.number + 1)
  numbered-behind [] numbered = (omega arith, tt, tt)
  numbered-behind (x ∷ ts) numbered = (omega (arith, numbered.0), above-behind x.number ts numbered.0 numbered.1, numbered-behind ts numbered.2)
