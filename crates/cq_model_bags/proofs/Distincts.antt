-- What distinct rows weigh.
use Rattle.std.proofs.Common.{◌≡◌, ℤ, pos, ◌+ℤ◌, Bool, true, false, not, ◌||◌, ◌&&◌, cond, List, [], ◌∷◌, map, filter, refl, sym, ◌∙◌, ap, int_lt}
use Rattle.std.specs.List.{list_any}
use Rattle.std.proofs.Math.IntN.{+ℤ_idl}
use Rattle.cq_values.specs.Value.{Row}
use Rattle.cq_values.specs.Order.{same_row}
use Rattle.cq_values.specs.Keys.{same_row-same}
use Rattle.cq_model_bags.specs.Bag.{Weighted, weight_of, SameBag, once_each, filtered, projected, firsts, distinct_rows, distinct}
use Rattle.cq_model_bags.proofs.Totals.{by_test, weight_of-filtered}

-- whether a row is among these
abbrev pub is_among : Row → List Row → Bool
is_among r rows = list_any (λ s. same_row s r) rows

-- some of the rows, each once
pub once_each-filter : (keep : Row → Bool) (rows : List Row) → once_each (filter keep rows) ≡ filtered keep (once_each rows)
once_each-filter keep [] = refl
once_each-filter keep (r ∷ rows) = by_test (keep r) (λ k. rw (k, once_each-filter keep rows) refl) (λ k. rw (k, once_each-filter keep rows) refl)

-- the images of the rows, each once
pub once_each-map : (f : Row → Row) (rows : List Row) → once_each (map f rows) ≡ projected f (once_each rows)
once_each-map f [] = refl
once_each-map f (r ∷ rows) = ap (λ xs. (f r, pos 1) ∷ xs) (once_each-map f rows)

-- first ones weigh one each
pub weight_of-firsts : (rows : List Row) (r : Row) → weight_of (once_each (firsts rows)) r ≡ cond (is_among r rows) (pos 1) (pos 0)
weight_of-firsts [] r = refl
weight_of-firsts (q ∷ rows) r =
    let other : Row → Bool = λ s. not (same_row q s) in
    let rest = ap (λ xs. weight_of xs r) (once_each-filter other (firsts rows)) ∙ weight_of-filtered other (once_each (firsts rows)) r in
    by_test (same_row q r)
    (λ s. ap (λ n. cond (same_row q r) (pos 1) (pos 0) +ℤ n) rest ∙ rw s refl)
    (λ s. ap (λ n. cond (same_row q r) (pos 1) (pos 0) +ℤ n) rest ∙ rw (s, weight_of-firsts rows r) (+ℤ_idl (cond (is_among r rows) (pos 1) (pos 0))))

-- a row that is not listed has no weight
pub weight_of-absent : (xs : Weighted) (r : Row) → is_among r (map (λ x. x.0) xs) ≡ false → weight_of xs r ≡ pos 0
weight_of-absent [] r h = refl
weight_of-absent (x ∷ xs) r h = by_test (same_row x.0 r)
    (λ s. absurd (let k : true ≡ false = sym (ap (λ b. b || is_among r (map (λ (y : Row × ℤ). y.0) xs)) s) ∙ h in cc))
    (λ s. rw (s, weight_of-absent xs r (sym (ap (λ b. b || is_among r (map (λ (y : Row × ℤ). y.0) xs)) s) ∙ h)) refl)

-- which rows a filter leaves
pub is_among-filter : (keep : Row → Bool) (xs : Weighted) (r : Row) → is_among r (map (λ x. x.0) (filter (λ x. keep x.0) xs)) ≡ keep r && is_among r (map (λ x. x.0) xs)
is_among-filter keep [] r = by_test (keep r) (λ k. rw k refl) (λ k. rw k refl)
is_among-filter keep (x ∷ xs) r = by_test (same_row x.0 r)
    (λ s. let e = ap keep (same_row-same x.0 r s) in by_test (keep r)
    (λ k. rw (e, k, s) refl)
    (λ k. rw (e, k, is_among-filter keep xs r, k) refl))
    (λ s. by_test (keep x.0) (λ k. rw (k, s, is_among-filter keep xs r) refl) (λ k. rw (k, s, is_among-filter keep xs r) refl))

-- a row that is there is listed once
pub weight_of-distinct : (xs : Weighted) (r : Row) → weight_of (distinct xs) r ≡ cond (int_lt (pos 0) (weight_of xs r)) (pos 1) (pos 0)
weight_of-distinct xs r =
    let there : Row → Bool = λ q. int_lt (pos 0) (weight_of xs q) in
    let listed = is_among r (map (λ (x : Row × ℤ). x.0) xs) in
    weight_of-firsts (map (λ x. x.0) (filter (λ x. there x.0) xs)) r ∙ ap (λ b. cond b (pos 1) (pos 0)) (is_among-filter there xs r)
    ∙ by_test listed
    (λ k. rw k (by_test (there r) (λ t. rw t refl) (λ t. rw t refl)))
    (λ k. rw (k, weight_of-absent xs r k) refl)

-- distinct depends on the bag alone
pub distinct-respects : (xs ys : Weighted) → SameBag xs ys → SameBag (distinct xs) (distinct ys)
distinct-respects xs ys s = record { at = λ r. rw (weight_of-distinct xs r, weight_of-distinct ys r, s.at r) refl }

-- ---- which rows are listed
pub is_among-filter_rows : (keep : Row → Bool) (rows : List Row) (r : Row) → is_among r (filter keep rows) ≡ keep r && is_among r rows
is_among-filter_rows keep [] r = by_test (keep r) (λ k. rw k refl) (λ k. rw k refl)
is_among-filter_rows keep (q ∷ rows) r = by_test (same_row q r)
    (λ s. let e = ap keep (same_row-same q r s) in by_test (keep r)
    (λ k. rw (e, k, s) refl)
    (λ k. rw (e, k, is_among-filter_rows keep rows r, k) refl))
    (λ s. by_test (keep q) (λ k. rw (k, s, is_among-filter_rows keep rows r) refl) (λ k. rw (k, s, is_among-filter_rows keep rows r) refl))

-- each row has a first one
pub is_among-firsts : (rows : List Row) (r : Row) → is_among r (firsts rows) ≡ is_among r rows
is_among-firsts [] r = refl
is_among-firsts (q ∷ rows) r =
    let rest = is_among-filter_rows (λ s. not (same_row q s)) (firsts rows) r in
    by_test (same_row q r) (λ s. rw s refl) (λ s. rw (s, rest, s) (is_among-firsts rows r))

-- the rows that are there are those of positive weight
pub is_among-distinct : (xs : Weighted) (r : Row) → is_among r (distinct_rows xs) ≡ int_lt (pos 0) (weight_of xs r)
is_among-distinct xs r =
    let there : Row → Bool = λ q. int_lt (pos 0) (weight_of xs q) in
    let listed = is_among r (map (λ (x : Row × ℤ). x.0) xs) in
    is_among-firsts (map (λ x. x.0) (filter (λ x. there x.0) xs)) r ∙ is_among-filter there xs r
    ∙ by_test listed
    (λ k. rw k (by_test (there r) (λ t. rw t refl) (λ t. rw t refl)))
    (λ k. rw (k, weight_of-absent xs r k) refl)
