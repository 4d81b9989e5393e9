-- Keys as they are met, each once.
use Rattle.std.proofs.Common.{◌≡◌, ℕ, Bool, true, false, not, ◌||◌, List, [], ◌∷◌, ◌++◌, map, filter, refl, sym, ◌∙◌, ap, ap₂, Option}
use Rattle.std.specs.List.{AllByRecursion}
use Rattle.std.proofs.lemmas.List.{append_assoc, map-append}
use Rattle.cq_values.specs.Value.{Row}
use Rattle.cq_values.specs.Order.{same_row}
use Rattle.cq_values.specs.Keys.{same_row-refl, same_row-same}
use Rattle.cq_model_bags.specs.Bag.{firsts}
use Rattle.cq_model_bags.proofs.Totals.{by_test}
use Rattle.cq_model_bags.proofs.Distincts.{is_among, is_among-firsts}
use Rattle.cq_model.specs.Group.{key_of}
use Rattle.cq_hash_groups.specs.Groups.{group_columns, first_keys, group_keys, rows_at}
use Rattle.cq_model_bags.proofs.Lists.{all-filter}
use Rattle.cq_model_bags.proofs.Once.{kept-apart, others-apart}
use Rattle.std.proofs.lemmas.List.Elements.{filter-append}

-- a row that is not the other's same, seen from the other
pub apart-sym : (r s : Row) → same_row r s ≡ false → same_row s r ≡ false
apart-sym r s h = by_test (same_row s r)
    (λ t. absurd (let e : s ≡ r = same_row-same s r t in let f : true ≡ false = sym (same_row-refl s) ∙ ap (λ x. same_row x s) e ∙ h in cc))
    (λ f. f)

-- no two of the rows are one
abbrev pub AreApart : List Row → Type 0
AreApart [] = Unit {0}
AreApart (r ∷ rows) = AllByRecursion (λ s. same_row r s ≡ false) rows × AreApart rows

apart-filter : (keep : Row → Bool) (rows : List Row) → AreApart rows → AreApart (filter keep rows)
apart-filter keep [] a = tt
apart-filter keep (r ∷ rows) a =
    by_test (keep r) (λ k. rw k (all-filter (λ s. same_row r s ≡ false) keep rows a.0, apart-filter keep rows a.1)) (λ k. rw k (apart-filter keep rows a.1))

pub apart-firsts : (rows : List Row) → AreApart (firsts rows)
apart-firsts [] = tt
apart-firsts (r ∷ rows) = (others-apart r (firsts rows), apart-filter (λ s. not (same_row r s)) (firsts rows) (apart-firsts rows))

firsts-apart : (rows : List Row) → AreApart rows → firsts rows ≡ rows
firsts-apart [] a = refl
firsts-apart (r ∷ rows) a =
    ap (λ (xs : List Row). r ∷ filter (λ s. not (same_row r s)) xs) (firsts-apart rows a.1) ∙ ap (λ (xs : List Row). r ∷ xs) (kept-apart r rows a.0)

-- ---- keys that are new
-- those that are among neither
abbrev pub new_of : List Row → List Row → List Row
new_of known rows = filter (λ s. not (is_among s known)) rows

new-of_none : (rows : List Row) → rows ≡ new_of [] rows
new-of_none [] = refl
new-of_none (r ∷ rows) = ap (λ (xs : List Row). r ∷ xs) (new-of_none rows)

new-of_more : (x : Row) (xs rows : List Row) → filter (λ s. not (same_row x s)) (new_of xs rows) ≡ new_of (x ∷ xs) rows
new-of_more x xs [] = refl
new-of_more x xs (r ∷ rows) = by_test (is_among r xs)
    (λ k. by_test (same_row x r) (λ s. rw (k, s) (new-of_more x xs rows)) (λ s. rw (k, s) (new-of_more x xs rows)))
    (λ k. by_test (same_row x r) (λ s. rw (k, s) (new-of_more x xs rows)) (λ s. rw (k, s) (ap (λ (ys : List Row). r ∷ ys) (new-of_more x xs rows))))

-- the first ones of two lists are those of the one, and those of the other that are new
pub firsts-append : (xs ys : List Row) → firsts (xs ++ ys) ≡ firsts xs ++ new_of xs (firsts ys)
firsts-append [] ys = new-of_none (firsts ys)
firsts-append (x ∷ xs) ys =
    ap (λ (rows : List Row). x ∷ filter (λ s. not (same_row x s)) rows) (firsts-append xs ys)
    ∙ ap (λ (rows : List Row). x ∷ rows) (filter-append (λ s. not (same_row x s)) (firsts xs) (new_of xs (firsts ys)))
    ∙ ap (λ (rows : List Row). x ∷ filter (λ s. not (same_row x s)) (firsts xs) ++ rows) (new-of_more x xs (firsts ys))

new-of_firsts : (xs rows : List Row) → new_of (firsts xs) rows ≡ new_of xs rows
new-of_firsts xs [] = refl
new-of_firsts xs (r ∷ rows) = by_test (is_among r xs)
    (λ k. rw (is_among-firsts xs r, k) (new-of_firsts xs rows))
    (λ k. rw (is_among-firsts xs r, k) (ap (λ (ys : List Row). r ∷ ys) (new-of_firsts xs rows)))

-- the first ones so far stand for all so far
pub firsts-of_firsts : (xs ys : List Row) → firsts (firsts xs ++ ys) ≡ firsts (xs ++ ys)
firsts-of_firsts xs ys =
    firsts-append (firsts xs) ys ∙ ap₂ (λ (us : List Row) (vs : List Row). us ++ vs) (firsts-apart (firsts xs) (apart-firsts xs)) (new-of_firsts xs (firsts ys))
    ∙ sym (firsts-append xs ys)

pub all-new : (known rows : List Row) → AllByRecursion (λ s. is_among s known ≡ false) (new_of known rows)
all-new known [] = tt
all-new known (r ∷ rows) = by_test (is_among r known) (λ k. rw k (all-new known rows)) (λ k. rw k (k, all-new known rows))

-- ---- the rows of a key
neither : (a b : Bool) → a || b ≡ false → (a ≡ false) × (b ≡ false)
neither a b h = by_test a
    (λ k. absurd (let e : true ≡ false = sym (ap (λ (x : Bool). x || b) k) ∙ h in cc))
    (λ k. (k, sym (ap (λ (x : Bool). x || b) k) ∙ h))

module _ (columns : List ℕ) where
  pub rows-append : (xs ys : List Row) (k : Row) → rows_at columns (xs ++ ys) k ≡ rows_at columns xs k ++ rows_at columns ys k
  rows-append xs ys k = filter-append (λ r. same_row (key_of columns r) k) xs ys

  -- a key that is new has no rows
  pub none-of_new : (before rows : List Row) (k : Row) → is_among k (before ++ map (key_of columns) rows) ≡ false → rows_at columns rows k ≡ []
  none-of_new (b ∷ before) rows k h = none-of_new before rows k (neither (same_row b k) (is_among k (before ++ map (key_of columns) rows)) h).1
  none-of_new [] [] k h = refl
  none-of_new [] (r ∷ rows) k h =
      let both = neither (same_row (key_of columns r) k) (is_among k (map (key_of columns) rows)) h in
      let here : same_row (key_of columns r) k ≡ false = both.0 in
      rw here (none-of_new [] rows k both.1)

  all-none : (before rows keys : List Row) → AllByRecursion (λ k. is_among k (before ++ map (key_of columns) rows) ≡ false) keys → AllByRecursion (λ k. rows_at columns rows k ≡ []) keys
  all-none before rows [] a = tt
  all-none before rows (k ∷ keys) a = (none-of_new before rows k a.0, all-none before rows keys a.1)

  -- the keys of more rows are those so far, and keys that have had no rows
  pub keys-more : (before rows more : List Row) → (new : List Row)
      × (firsts (firsts (before ++ map (key_of columns) rows) ++ map (key_of columns) more) ≡ firsts (before ++ map (key_of columns) rows) ++ new)
      × AllByRecursion (λ k. rows_at columns rows k ≡ []) new
  keys-more before rows more =
      let xs = before ++ map (key_of columns) rows in
      let ys = map (key_of columns) more in
      (new_of xs (firsts ys), firsts-of_firsts xs ys ∙ firsts-append xs ys, all-none before rows (new_of xs (firsts ys)) (all-new xs (firsts ys)))

-- the keys of rows that are added one after the other
pub keys-append : (keys : Option (List ℕ)) (rows more : List Row) → firsts (group_keys keys rows ++ map (key_of (group_columns keys)) more) ≡ group_keys keys (rows ++ more)
keys-append keys rows more =
    firsts-of_firsts (first_keys keys ++ map (key_of (group_columns keys)) rows) (map (key_of (group_columns keys)) more)
    ∙ ap firsts (append_assoc (first_keys keys) (map (key_of (group_columns keys)) rows) (map (key_of (group_columns keys)) more)
    ∙ ap (λ (xs : List Row). first_keys keys ++ xs) (sym (map-append (key_of (group_columns keys)) rows more)))
