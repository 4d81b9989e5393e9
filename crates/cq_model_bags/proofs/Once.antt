-- Lists of rows, each once: which rows are there, and which of them come first.
use Rattle.std.proofs.Common.{◌≡◌, ℕ, zero, suc, ◌<◌, ℤ, pos, ◌<ℤ◌, Bool, true, false, not, cond, List, [], ◌∷◌, ◌++◌, map, filter, length, get_or, refl, ap, arith, int_lt}
use Rattle.std.specs.List.{AllByRecursion}
use Rattle.std.proofs.lemmas.Int.{ints}
use Rattle.std.proofs.lemmas.List.{append-nil}
use Rattle.std.proofs.lemmas.List.Elements.{filter-append}
use Rattle.cq_values.specs.Value.{Row}
use Rattle.cq_values.specs.Order.{same_row}
use Rattle.cq_values.specs.Keys.{same_row-refl}
use Rattle.cq_model_bags.specs.Bag.{weight_of, once_each, firsts, distinct_rows}
use Rattle.cq_model_bags.proofs.Totals.{by_test}
use Rattle.cq_model_bags.proofs.Distincts.{is_among}
use Rattle.cq_model_bags.proofs.Listings.{times_in, weight_of-once_each}
use Rattle.cq_model_bags.proofs.Lists.{all-listed}

-- the rows of rows that stand once each
pub rows-once : (rows : List Row) → map (λ x. x.0) (once_each rows) ≡ rows
rows-once [] = refl
rows-once (r ∷ rows) = ap (λ (qs : List Row). r ∷ qs) (rows-once rows)

-- a listed row is there
times-listed : (rows : List Row) (i : ℕ) (d : Row) → i < length rows → 0 < times_in (get_or rows i d) rows
times-listed [] i d h = absurd (omega arith)
times-listed (r ∷ rows) zero d h = rw (same_row-refl r) (omega arith)
times-listed (r ∷ rows) (suc i) d h = let rest = times-listed rows i d (omega arith) in omega (arith, rest)

pub is_there : (rows : List Row) (i : ℕ) (d : Row) → i < length rows → pos 0 <ℤ weight_of (once_each rows) (get_or rows i d)
is_there rows i d h = rw (weight_of-once_each rows (get_or rows i d)) (omega (arith, ints, times-listed rows i d h))

-- a filter that each row passes
kept-all : (w : Row → ℤ) (rows : List Row) → AllByRecursion (λ r. int_lt (pos 0) (w r) ≡ true) rows → map (λ (x : Row × ℤ). x.0) (filter (λ x. int_lt (pos 0) (w x.0)) (once_each rows)) ≡ rows
kept-all w [] all = refl
kept-all w (r ∷ rows) all = let here = all.0 in rw here (ap (λ (rs : List Row). r ∷ rs) (kept-all w rows all.1))

there-test : (n : ℤ) → pos 0 <ℤ n → int_lt (pos 0) n ≡ true
there-test n h = by_test (int_lt (pos 0) n) (λ k. k) (λ k. absurd (omega (arith, ints)))

-- the rows of a list that are there are its first ones
pub distinct-once : (rows : List Row) → distinct_rows (once_each rows) ≡ firsts rows
distinct-once rows =
    ap firsts (kept-all (weight_of (once_each rows)) rows
    (all-listed (λ r. int_lt (pos 0) (weight_of (once_each rows) r) ≡ true) rows (λ i d h. there-test (weight_of (once_each rows) (get_or rows i d)) (is_there rows i d h))))

-- ---- first ones
-- a row behind the others is a first one where it is not among them
pub firsts-push : (rows : List Row) (r : Row) → firsts (rows ++ r ∷ []) ≡ cond (is_among r rows) (firsts rows) (firsts rows ++ r ∷ [])
firsts-push [] r = refl
firsts-push (q ∷ rows) r =
    let other : Row → Bool = λ s. not (same_row q s) in
    by_test (is_among r rows)
    (λ k. rw (firsts-push rows r, k) (by_test (same_row q r) (λ s. rw s refl) (λ s. rw s refl)))
    (λ k. rw (firsts-push rows r, k) (by_test (same_row q r)
    (λ s. rw (filter-append other (firsts rows) (r ∷ []), s, append-nil (filter other (firsts rows))) refl)
    (λ s. rw (filter-append other (firsts rows) (r ∷ []), s) refl)))

-- the rows that are not r are apart from it
pub others-apart : (r : Row) (rows : List Row) → AllByRecursion (λ s. same_row r s ≡ false) (filter (λ s. not (same_row r s)) rows)
others-apart r [] = tt
others-apart r (s ∷ rows) = by_test (same_row r s) (λ k. rw k (others-apart r rows)) (λ k. rw k (k, others-apart r rows))

-- and rows that are apart from it all stay without it
pub kept-apart : (r : Row) (rows : List Row) → AllByRecursion (λ s. same_row r s ≡ false) rows → filter (λ s. not (same_row r s)) rows ≡ rows
kept-apart r [] all = refl
kept-apart r (s ∷ rows) all = let here : same_row r s ≡ false = all.0 in rw here (ap (λ (xs : List Row). s ∷ xs) (kept-apart r rows all.1))
