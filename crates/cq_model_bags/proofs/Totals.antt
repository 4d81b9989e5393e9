-- A sum over a list of weighted rows depends on the bag alone.
use Rattle.std.proofs.Common.{◌≡◌, ℕ, zero, suc, ◌≤◌, ℤ, pos, ◌+ℤ◌, ◌*ℤ◌, neg_ℤ, Bool, true, false, not, cond, [], ◌∷◌, ◌++◌, length, refl, sym, ◌∙◌, ap, arith}
use Rattle.std.proofs.Math.IntN.{+ℤ_assoc, +ℤ_idl, +ℤ_idr, +ℤ_invr, zero-*ℤ, *ℤ-zero, neg_ℤ-+ℤ}
use Rattle.std.proofs.lemmas.Int.{ints}
use Rattle.std.proofs.lemmas.List.Sums.{length-filter, count_by-le-length}
use Rattle.cq_values.specs.Value.{Row}
use Rattle.cq_values.specs.Order.{same_row}
use Rattle.cq_values.specs.Keys.{same_row-refl, same_row-same}
use Rattle.cq_model_bags.specs.Bag.{Weighted, weight_of, SameBag, negative, difference, filtered, projected, total}
use Rattle.cq_model_bags.proofs.Integers.{add-swap, mul-distribute, mul-distribute-right, mul-swap, neg-mul, mul-one}

-- a proof by the two answers of a test
pub by_test : {P : Type 0} (b : Bool) → (b ≡ true → P) → (b ≡ false → P) → P
by_test true on off = on refl
by_test false on off = off refl

pub total-append : (f : Row → ℤ) (xs ys : Weighted) → total f (xs ++ ys) ≡ total f xs +ℤ total f ys
total-append f [] ys = sym (+ℤ_idl (total f ys))
total-append f (x ∷ xs) ys = ap (λ n. (x.1 *ℤ f x.0) +ℤ n) (total-append f xs ys) ∙ sym (+ℤ_assoc (x.1 *ℤ f x.0) (total f xs) (total f ys))

pub total-same : (f g : Row → ℤ) → ((r : Row) → f r ≡ g r) → (xs : Weighted) → total f xs ≡ total g xs
total-same f g h [] = refl
total-same f g h (x ∷ xs) = rw (h x.0, total-same f g h xs) refl

pub total-plus : (f g : Row → ℤ) (xs : Weighted) → total (λ r. f r +ℤ g r) xs ≡ total f xs +ℤ total g xs
total-plus f g [] = refl
total-plus f g (x ∷ xs) = rw (mul-distribute x.1 (f x.0) (g x.0), total-plus f g xs) (add-swap (x.1 *ℤ f x.0) (x.1 *ℤ g x.0) (total f xs) (total g xs))

pub total-scale : (c : ℤ) (f : Row → ℤ) (xs : Weighted) → total (λ r. c *ℤ f r) xs ≡ c *ℤ total f xs
total-scale c f [] = sym (*ℤ-zero c)
total-scale c f (x ∷ xs) = rw (mul-swap x.1 c (f x.0), total-scale c f xs) (sym (mul-distribute c (x.1 *ℤ f x.0) (total f xs)))

pub total-negative : (f : Row → ℤ) (xs : Weighted) → total f (negative xs) ≡ neg_ℤ (total f xs)
total-negative f [] = refl
total-negative f (x ∷ xs) = rw (neg-mul x.1 (f x.0), total-negative f xs) (sym (neg_ℤ-+ℤ (x.1 *ℤ f x.0) (total f xs)))

pub total-projected : (f : Row → ℤ) (g : Row → Row) (xs : Weighted) → total f (projected g xs) ≡ total (λ r. f (g r)) xs
total-projected f g [] = refl
total-projected f g (x ∷ xs) = ap (λ n. (x.1 *ℤ f (g x.0)) +ℤ n) (total-projected f g xs)

pub total-filtered : (f : Row → ℤ) (keep : Row → Bool) (xs : Weighted) → total f (filtered keep xs) ≡ total (λ r. cond (keep r) (f r) (pos 0)) xs
total-filtered f keep [] = refl
total-filtered f keep (x ∷ xs) = by_test (keep x.0)
    (λ k. rw (k, total-filtered f keep xs) refl)
    (λ k. rw (k, total-filtered f keep xs, *ℤ-zero x.1) (sym (+ℤ_idl _)))

-- the test of one row, as a number
abbrev pub is_row : Row → Row → ℤ
is_row r q = cond (same_row q r) (pos 1) (pos 0)

pub weight_of-total : (xs : Weighted) (r : Row) → weight_of xs r ≡ total (is_row r) xs
weight_of-total [] r = refl
weight_of-total (x ∷ xs) r = by_test (same_row x.0 r)
    (λ s. rw (s, weight_of-total xs r, mul-one x.1) refl)
    (λ s. rw (s, weight_of-total xs r, *ℤ-zero x.1) refl)

pub weight_of-filtered : (keep : Row → Bool) (xs : Weighted) (q : Row) → weight_of (filtered keep xs) q ≡ cond (keep q) (weight_of xs q) (pos 0)
weight_of-filtered keep [] q = by_test (keep q) (λ k. rw k refl) (λ k. rw k refl)
weight_of-filtered keep (x ∷ xs) q = by_test (same_row x.0 q)
    (λ s. let e = ap keep (same_row-same x.0 q s) in by_test (keep q)
    (λ k. rw (e, k, s, weight_of-filtered keep xs q, k) refl)
    (λ k. rw (e, k, weight_of-filtered keep xs q, k) refl))
    (λ s.
    let kept = weight_of-filtered keep xs q ∙ ap (λ n. cond (keep q) n (pos 0)) (sym (+ℤ_idl (weight_of xs q))) in
    by_test (keep x.0) (λ k. rw (k, s) (+ℤ_idl _ ∙ kept)) (λ k. rw (k, s) kept))

-- the rows other than r
abbrev pub without : Row → Weighted → Weighted
without r xs = filtered (λ q. not (same_row q r)) xs

-- one row's part of a sum
pub total-split : (f : Row → ℤ) (r : Row) (xs : Weighted) → total f xs ≡ (weight_of xs r *ℤ f r) +ℤ total f (without r xs)
total-split f r [] = sym (+ℤ_idr _ ∙ zero-*ℤ (f r))
total-split f r (x ∷ xs) = by_test (same_row x.0 r)
    (λ s. let e = ap f (same_row-same x.0 r s) in
    rw (s, e, total-split f r xs, mul-distribute-right x.1 (weight_of xs r) (f r)) (omega (arith, ints)))
    (λ s. rw (s, total-split f r xs, +ℤ_idl (weight_of xs r)) (omega (arith, ints)))

-- a list that gives each row weight zero sums to zero
pub total-nothing : (n : ℕ) (f : Row → ℤ) (xs : Weighted) → length xs ≤ n → ((r : Row) → weight_of xs r ≡ pos 0) → total f xs ≡ pos 0
total-nothing n f [] short none = refl
total-nothing zero f (x ∷ xs) short none = absurd (omega arith)
total-nothing (suc n) f (x ∷ xs) short none =
    let other : Row → Bool = λ q. not (same_row q x.0) in
    let shorter : length (without x.0 (x ∷ xs)) ≤ n = rw (same_row-refl x.0) (omega (arith, length-filter (λ (y : Row × ℤ). other y.0) xs, count_by-le-length (λ (y : Row × ℤ). other y.0) xs)) in
    let rest = total-nothing n f (without x.0 (x ∷ xs)) shorter (λ q.
    weight_of-filtered other (x ∷ xs) q ∙ ap (λ w. cond (other q) w (pos 0)) (none q) ∙ by_test (other q) (λ k. rw k refl) (λ k. rw k refl)) in
    total-split f x.0 (x ∷ xs) ∙ ap (λ w. (w *ℤ f x.0) +ℤ total f (without x.0 (x ∷ xs))) (none x.0) ∙ ap (λ w. (pos 0 *ℤ f x.0) +ℤ w) rest ∙ ap (λ w. w +ℤ pos 0) (zero-*ℤ (f x.0))

pub weight_of-append : (xs ys : Weighted) (r : Row) → weight_of (xs ++ ys) r ≡ weight_of xs r +ℤ weight_of ys r
weight_of-append [] ys r = sym (+ℤ_idl _)
weight_of-append (x ∷ xs) ys r = rw (weight_of-append xs ys r) (omega (arith, ints))

pub weight_of-negative : (xs : Weighted) (r : Row) → weight_of (negative xs) r ≡ neg_ℤ (weight_of xs r)
weight_of-negative xs r = weight_of-total (negative xs) r ∙ total-negative (is_row r) xs ∙ ap neg_ℤ (sym (weight_of-total xs r))

-- the main law: a sum over the rows is one of the bag
pub total-respects : (f : Row → ℤ) (xs ys : Weighted) → SameBag xs ys → total f xs ≡ total f ys
total-respects f xs ys same =
    let none = total-nothing (length (difference xs ys)) f (difference xs ys) (omega arith) (λ r. rw (weight_of-append xs (negative ys) r, weight_of-negative ys r, same.at r) (+ℤ_invr (weight_of ys r))) in
    let apart = total-append f xs (negative ys) ∙ ap (λ n. total f xs +ℤ n) (total-negative f ys) in
    omega (arith, ints, sym apart ∙ none)
