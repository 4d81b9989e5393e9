-- Images of rows are no more entries than the rows, and no more of them go together.
use Rattle.std.proofs.Common.{◌≡◌, ℕ, ◌≤◌, ℤ, pos, ◌*ℤ◌, Bool, true, false, not, ◌||◌, ◌&&◌, cond, List, [], ◌∷◌, map, filter, length, int_eq, refl, sym, ◌∙◌, ap, arith}
use Rattle.std.specs.List.{AllByRecursion, sum_by}
use Rattle.std.specs.Cmp.{signed_Decides}
use Rattle.std.proofs.Math.IntN.{zero-*ℤ, *ℤ-zero}
use Rattle.std.proofs.lemmas.Int.{ints}
use Rattle.std.proofs.lemmas.List.Sums.{sum_by-cons, length-filter}
use Rattle.cq_values.specs.Value.{Row}
use Rattle.cq_values.specs.Order.{same_row}
use Rattle.cq_model_bags.specs.Bag.{Weighted, weight_of, SameBag, once_each, projected, firsts, total}
use Rattle.cq_model_bags.specs.Join.{HasWidth}
use Rattle.cq_model_bags.specs.Size.{entries, size, pairs_met}
use Rattle.cq_model_bags.proofs.Totals.{by_test, is_row, total-projected, total-respects, weight_of-filtered, weight_of-total}
use Rattle.cq_model_bags.proofs.Lists.{all-filter, all-of}
use Rattle.cq_model_bags.proofs.Distincts.{is_among, is_among-filter, once_each-filter, weight_of-firsts}
use Rattle.cq_model_bags.proofs.Entries.{weighed, weight_of-weighed}
use Rattle.cq_model_bags.proofs.Sizes.{support, sum-ones, total-ones, weight_of-support}

-- ---- which images are there
-- once a weight, and no weight of zero
once_or_none : (w : ℤ) → cond (not (int_eq w (pos 0))) (pos 1) (pos 0) *ℤ w ≡ w
once_or_none w = by_test (int_eq w (pos 0))
    (λ k. rw k (zero-*ℤ w ∙ sym ((signed_Decides w (pos 0)).0 k)))
    (λ k. rw k (omega (arith, ints)))

-- a bag is its entries, each with its weight
entries-weighed : (xs : Weighted) → SameBag (weighed (weight_of xs) (support xs)) xs
entries-weighed xs = record { at = λ r. weight_of-weighed (weight_of xs) (support xs) r ∙ ap (λ n. n *ℤ weight_of xs r) (weight_of-support xs r) ∙ once_or_none (weight_of xs r) }

-- rows that do not give an image add nothing to its weight
total-absent : (w : Row → ℤ) (f : Row → Row) (q : Row) (rows : List Row) → is_among q (map f rows) ≡ false → total (λ r. is_row q (f r)) (weighed w (once_each rows)) ≡ pos 0
total-absent w f q [] h = refl
total-absent w f q (r ∷ rows) h = by_test (same_row (f r) q)
    (λ k. absurd (let e : true ≡ false = sym (ap (λ b. b || is_among q (map f rows)) k) ∙ h in cc))
    (λ k. rw (k, *ℤ-zero (pos 1 *ℤ w r), total-absent w f q rows (sym (ap (λ b. b || is_among q (map f rows)) k) ∙ h)) refl)

-- an image of no entry weighs nothing
weight_of-no_image : (f : Row → Row) (xs : Weighted) (q : Row) → is_among q (map f (entries xs)) ≡ false → weight_of (projected f xs) q ≡ pos 0
weight_of-no_image f xs q h =
    weight_of-total (projected f xs) q ∙ total-projected (is_row q) f xs
    ∙ sym (total-respects (λ r. is_row q (f r)) (weighed (weight_of xs) (support xs)) xs (entries-weighed xs)) ∙ total-absent (weight_of xs) f q (entries xs) h

-- the rows of a list that have a weight
abbrev weighing : Weighted → List Row
weighing xs = map (λ x. x.0) (filter (λ x. not (int_eq (weight_of xs x.0) (pos 0))) xs)

-- an image with a weight is the image of an entry
image-of-entry : (f : Row → Row) (xs : Weighted) (q : Row) → is_among q (weighing (projected f xs)) ≡ true → is_among q (map f (entries xs)) ≡ true
image-of-entry f xs q h =
    let there : Row → Bool = λ r. not (int_eq (weight_of (projected f xs) r) (pos 0)) in
    by_test (is_among q (map f (entries xs)))
    (λ k. k)
    (λ k. let none : there q ≡ false = ap (λ w. not (int_eq w (pos 0))) (weight_of-no_image f xs q k) in
    let e : true ≡ false = sym h ∙ is_among-filter there (projected f xs) q ∙ ap (λ b. b && is_among q (map (λ (x : Row × ℤ). x.0) (projected f xs))) none in
    absurd (cc))

-- ---- sums
-- a sum over the rows that pass is no larger
sum-filter : (f : Row → ℕ) (keep : Row → Bool) (rows : List Row) → sum_by f (filter keep rows) ≤ sum_by f rows
sum-filter f keep [] = omega arith
sum-filter f keep (r ∷ rows) = by_test (keep r)
    (λ k. rw k (omega (arith, sum_by-cons f r (filter keep rows), sum_by-cons f r rows, sum-filter f keep rows)))
    (λ k. rw k (omega (arith, sum_by-cons f r rows, sum-filter f keep rows)))

-- nor is one over the first ones
sum-firsts : (f : Row → ℕ) (rows : List Row) → sum_by f (firsts rows) ≤ sum_by f rows
sum-firsts f [] = omega arith
sum-firsts f (r ∷ rows) =
    let other : Row → Bool = λ s. not (same_row r s) in
    omega (arith, sum_by-cons f r (filter other (firsts rows)), sum_by-cons f r rows, sum-filter f other (firsts rows), sum-firsts f rows)

-- nor one over the first ones of rows that are all among these
sum-among : (f : Row → ℕ) (rows others : List Row) → ((r : Row) → is_among r rows ≡ true → is_among r others ≡ true) → sum_by f (firsts rows) ≤ sum_by f others
sum-among f rows others h =
    let listed : Row → Bool = λ r. is_among r rows in
    let chosen = filter listed (firsts others) in
    let same : SameBag (once_each (firsts rows)) (once_each chosen) = record {
      at = λ r.
          weight_of-firsts rows r
          ∙ by_test (listed r) (λ k. rw (k, h r k) refl) (λ k. rw k refl)
          ∙ ap (λ w. cond (listed r) w (pos 0)) (sym (weight_of-firsts others r))
          ∙ sym (weight_of-filtered listed (once_each (firsts others)) r) ∙ ap (λ xs. weight_of xs r) (sym (once_each-filter listed (firsts others)));
    } in
    let e : pos (sum_by f (firsts rows)) ≡ pos (sum_by f chosen) =
    sym (total-ones f (firsts rows)) ∙ total-respects (λ r. pos (f r)) (once_each (firsts rows)) (once_each chosen) same ∙ total-ones f chosen in
    omega (arith, ints, e, sum-filter f listed (firsts others), sum-firsts f others)

-- a sum over images is no larger where each term is no larger
sum-images : (g f : Row → ℕ) (image : Row → Row) (rows : List Row) → AllByRecursion (λ r. g (image r) ≤ f r) rows → sum_by g (map image rows) ≤ sum_by f rows
sum-images g f image [] h = omega arith
sum-images g f image (r ∷ rows) h = omega (arith, sum_by-cons g (image r) (map image rows), sum_by-cons f r rows, h.0, sum-images g f image rows h.1)

-- so a sum over the entries of a projection is no larger
entry_sum-images : (g f : Row → ℕ) (image : Row → Row) (xs : Weighted) → AllByRecursion (λ r. g (image r) ≤ f r) (entries xs) → sum_by g (entries (projected image xs)) ≤ sum_by f (entries xs)
entry_sum-images g f image xs h =
    omega (arith, sum-among g (weighing (projected image xs)) (map image (entries xs)) (image-of-entry image xs), sum-images g f image (entries xs) h)

-- ---- entries
-- what holds of all holds of the first ones
all-firsts : (P : Row → Type 0) (rows : List Row) → AllByRecursion P rows → AllByRecursion P (firsts rows)
all-firsts P [] a = tt
all-firsts P (r ∷ rows) a = (a.0, all-filter P (λ s. not (same_row r s)) (firsts rows) (all-firsts P rows a.1))

-- what holds of the rows of a width holds of all entries
entries-wide : (P : Row → Type 0) (n : ℕ) → ((r : Row) → length r ≡ n → P r) → (xs : Weighted) → HasWidth n xs → AllByRecursion P (entries xs)
entries-wide P n each xs w = all-firsts P (weighing xs) (kept (λ r. not (int_eq (weight_of xs r) (pos 0))) xs w)
  where
    kept : (keep : Row → Bool) (ys : Weighted) → HasWidth n ys → AllByRecursion P (map (λ y. y.0) (filter (λ y. keep y.0) ys))
    kept keep [] v = tt
    kept keep (y ∷ ys) v = by_test (keep y.0) (λ k. rw k (each y.0 v.0, kept keep ys v.1)) (λ k. rw k (kept keep ys v.1))

-- a projection has no more entries
pub size-images : (image : Row → Row) (xs : Weighted) → size (projected image xs) ≤ size xs
size-images image xs =
    omega (arith, sum-ones (entries (projected image xs)), sum-ones (entries xs), entry_sum-images (λ r. 1) (λ r. 1) image xs (all-of (λ r. 1 ≤ 1) (λ r. omega arith) (entries xs)))

-- and no more of them pass where an image passes as its row does
partners-images : (on also : Row → Bool) (image : Row → Row) (n : ℕ) → ((r : Row) → length r ≡ n → on (image r) ≡ also r) → (ys : Weighted) → HasWidth n ys
    → length (filter on (entries (projected image ys))) ≤ length (filter also (entries ys))
partners-images on also image n same ys w =
    let each = entries-wide (λ r. cond (on (image r)) 1 0 ≤ cond (also r) 1 0) n (λ r e. rw (same r e) (omega arith)) ys w in
    omega (arith, length-filter on (entries (projected image ys)), length-filter also (entries ys), entry_sum-images (λ r. cond (on r) 1 0) (λ r. cond (also r) 1 0) image ys each)

-- no more pairs go together where images do as their rows do
pub pairs-images : (on also : Row → Row → Bool) (f g : Row → Row) (n m : ℕ) → ((r s : Row) → length r ≡ n → length s ≡ m → on (f r) (g s) ≡ also r s)
    → (xs ys : Weighted) → HasWidth n xs → HasWidth m ys → pairs_met on (projected f xs) (projected g ys) ≤ pairs_met also xs ys
pairs-images on also f g n m same xs ys v w =
    let narrow : Row → ℕ = λ r. length (filter (on r) (entries (projected g ys))) in
    let wide : Row → ℕ = λ r. length (filter (also r) (entries ys)) in
    entry_sum-images narrow wide f xs (entries-wide (λ r. narrow (f r) ≤ wide r) n (λ r d. partners-images (on (f r)) (also r) g m (λ s e. same r s d e) ys w) xs v)
