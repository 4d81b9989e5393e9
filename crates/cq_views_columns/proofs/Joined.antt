-- Joins of narrower rows are the narrower rows of joins.
use Rattle.std.proofs.Common.{◌≡◌, ℕ, ◌+◌, ◌<◌, ◌≤◌, ◌-◌, ℤ, ◌*ℤ◌, Bool, true, ◌&&◌, nat_lt, List, [], ◌∷◌, ◌++◌, map, length, refl, sym, ◌∙◌, ap, ap₂, arith, append_assoc}
use Rattle.std.proofs.lemmas.Bool.Decides.{nat_tests}
use Rattle.std.proofs.lemmas.List.{append-nil, map-append}
use Rattle.std.specs.List.{AllByRecursion}
use Rattle.cq_values.specs.declared.comparison.Comparison.TheVariants.{Equal}
use Rattle.cq_values.specs.Comparison.{compared}
use Rattle.cq_values.specs.Truth.{is_true}
use Rattle.cq_values.specs.Value.{Row}
use Rattle.cq_model_bags.specs.Bag.{Weighted, joined, pairs_of, projected}
use Rattle.cq_model_bags.specs.Join.{HasWidth}
use Rattle.cq_model_bags.proofs.Totals.{by_test}
use Rattle.cq_model_bags.proofs.Widths.{joined-width}
use Rattle.cq_model.specs.Pushed.{HaveWidths}
use Rattle.cq_model.specs.Group.{key_of}
use Rattle.cq_model.specs.Meaning.{Tables, chain, meets}
use Rattle.cq_model.specs.declared.query.Equality.{Equality}
use Rattle.cq_model.specs.declared.query.Join.{Join}
use Rattle.cq_model.specs.declared.query.Source.{Source}
use Rattle.cq_views_columns.specs.Narrow.{renamed_join, renamed_on}
use Rattle.cq_model_terms.specs.Places.{is_one_of, place_in}
use Rattle.cq_views_columns.specs.Places.{behind, places_from}
use Rattle.cq_views_columns.proofs.Rows.{all-below, below-joined, column-kept, column-of-kept, is_one-front, is_one-joined, key-joined}

-- ---- joins of images
-- where images go together as the rows do, and their pairs are images of pairs
module _ (on also : Row → Row → Bool) (f g both : Row → Row) where
  abbrev GoTogether : Row → Row → Type 0
  GoTogether r s = (on (f r) (g s) ≡ also r s) × (f r ++ g s ≡ both (r ++ s))

  pairs-through : (x : Row × ℤ) (ys : Weighted) → AllByRecursion (λ y. GoTogether x.0 y.0) ys → pairs_of on (f x.0, x.1) (projected g ys) ≡ projected both (pairs_of also x ys)
  pairs-through x [] h = refl
  pairs-through x (y ∷ ys) h =
      let rest = pairs-through x ys h.1 in
      by_test (also x.0 y.0)
      (λ k. rw (h.0.0, k) (λ i. (h.0.1 i, x.1 *ℤ y.1) ∷ rest i))
      (λ k. rw (h.0.0, k) rest)

  pub joined-through : (xs ys : Weighted) → AllByRecursion (λ x. AllByRecursion (λ y. GoTogether x.0 y.0) ys) xs → joined on (projected f xs) (projected g ys) ≡ projected both (joined also xs ys)
  joined-through [] ys h = refl
  joined-through (x ∷ xs) ys h =
      ap₂ (λ (us vs : Weighted). us ++ vs) (pairs-through x ys h.0) (joined-through xs ys h.1)
      ∙ sym (map-append (λ (z : Row × ℤ). (both z.0, z.1)) (pairs_of also x ys) (joined also xs ys))

-- what holds of two rows of these widths holds of each two of two lists
both-wide : (P : Row → Row → Type 0) (n m : ℕ) → ((r s : Row) → length r ≡ n → length s ≡ m → P r s) → (xs ys : Weighted) → HasWidth n xs → HasWidth m ys
    → AllByRecursion (λ x. AllByRecursion (λ y. P x.0 y.0) ys) xs
both-wide P n m f [] ys v w = tt
both-wide P n m f (x ∷ xs) ys v w = (with_each ys w, both-wide P n m f xs ys v.1 w)
  where
    with_each : (zs : Weighted) → HasWidth m zs → AllByRecursion (λ y. P x.0 y.0) zs
    with_each [] u = tt
    with_each (z ∷ zs) u = (f x.0 z.0 v.0 u.0, with_each zs u.1)

-- ---- ON
module _ (front more own : List ℕ) (r s : Row) where
  -- an equality reads kept columns alone, as far as the rows have them
  abbrev pub ReadsKept : Equality → Type 0
  ReadsKept e = (nat_lt e.left (length r) ≡ true → is_one_of front e.left ≡ true) × (nat_lt e.right (length s) ≡ true → is_one_of own e.right ≡ true)

  -- then narrower rows meet where the rows do
  pub meets-kept : (on : List Equality) → AllByRecursion ReadsKept on
      → meets (renamed_on (place_in (front ++ more)) own on) (key_of front r) (key_of own s) ≡ meets on r s
  meets-kept [] h = refl
  meets-kept (e ∷ on) h =
      let left = column-kept front more r e.left h.0.0 in
      let right = column-of-kept own s e.right h.0.1 in
      let rest = meets-kept on h.1 in
      λ i. is_true (compared Equal (left i) (right i)) && rest i

-- ---- chains
-- these are columns of the source, and among them those that are read of the joined rows in this place
pub record Covers (read : ℕ → Bool) (columns : Source → List ℕ) (width : Source → ℕ) (before : ℕ) (source : Source) : Type 0 where
  pub within : AllByRecursion (λ c. c < width source) (columns source)
  pub each : (c : ℕ) → c < width source → read (before + c) ≡ true → is_one_of (columns source) c ≡ true

module _ (read : ℕ → Bool) (columns : Source → List ℕ) (width : Source → ℕ) where
  -- those that ON reads are read
  abbrev pub IsCovered : Source → Equality → Type 0
  IsCovered source e = (read e.left ≡ true) × (e.right < width source → is_one_of (columns source) e.right ≡ true)

  abbrev pub AreCovered : ℕ → List Join → Type 0
  AreCovered before [] = Unit {0}
  AreCovered before (j ∷ js) = Covers read columns width before j.source × AllByRecursion (IsCovered j.source) j.on × AreCovered (before + width j.source) js

  -- the columns of the joined rows
  abbrev pub columns_behind : ℕ → List Join → ℕ
  columns_behind n [] = n
  columns_behind n (j ∷ js) = columns_behind (n + width j.source) js

  -- those that are read of the first columns are among these places
  abbrev pub HasRead : ℕ → List ℕ → Type 0
  HasRead n places = (i : ℕ) → i < n → read i ≡ true → is_one_of places i ≡ true

  -- and so with those of one source more
  pub has_read-more : (n : ℕ) (source : Source) (front : List ℕ) → HasRead n front → Covers read columns width n source → HasRead (n + width source) (front ++ behind n (columns source))
  has_read-more n source front h c i low k = by_test (nat_lt i n)
      (λ b. is_one-front front (behind n (columns source)) i (h i (grind (arith, nat_tests, b)) k))
      (λ b. let above : n ≤ i = grind (arith, nat_tests, b) in
      let same : i ≡ n + (i - n) = omega (arith, above) in
      let small : i - n < width source = omega (arith, above, low) in
      let there : is_one_of (front ++ behind n (columns source)) (n + (i - n)) ≡ true = is_one-joined front n (columns source) (i - n) (c.each (i - n) small (ap read (sym same) ∙ k)) in
      ap (is_one_of (front ++ behind n (columns source))) same ∙ there)

  -- the places of all columns, where these are of the first sources
  abbrev pub all_places : List ℕ → ℕ → List Join → List ℕ
  all_places front n js = front ++ places_from columns n (map (λ j. j.source) js) (map width (map (λ j. j.source) js))

  pub more-places : (front : List ℕ) (n : ℕ) (j : Join) (js : List Join) → AllByRecursion (λ c. c < width j.source) (columns j.source)
      → all_places front n (j ∷ js) ≡ all_places (front ++ behind n (columns j.source)) (n + width j.source) js
  more-places front n j js within =
      let later = places_from columns (n + width j.source) (map (λ k. k.source) js) (map width (map (λ k. k.source) js)) in
      ap (λ (cs : List ℕ). front ++ (behind n cs ++ later)) (all-below (width j.source) (columns j.source) within)
      ∙ sym (append_assoc front (behind n (columns j.source)) later)

  -- among the places of all are those of all columns that are read
  pub has_read-all : (n : ℕ) (front : List ℕ) (js : List Join) → HasRead n front → AreCovered n js → HasRead (columns_behind n js) (all_places front n js)
  has_read-all n front [] h c i low k = is_one-front front [] i (h i low k)
  has_read-all n front (j ∷ js) h c i low k =
      ap (λ (ks : List ℕ). is_one_of ks i) (more-places front n j js c.0.within)
      ∙ has_read-all (n + width j.source) (front ++ behind n (columns j.source)) js (has_read-more n j.source front h c.0) c.2 i low k

  -- narrower rows meet in one join where the rows do
  pub meets-narrow : (kept front more : List ℕ) (n : ℕ) (j : Join) → kept ≡ front ++ more → HasRead n front → AllByRecursion (IsCovered j.source) j.on → (r s : Row) → length r ≡ n → length s ≡ width j.source
      → meets (renamed_join (place_in kept) columns j).on (key_of front r) (key_of (columns j.source) s) ≡ meets j.on r s
  meets-narrow kept front more n j are h on r s e d =
      let own = columns j.source in
      ap (λ (ks : List ℕ). meets (renamed_on (place_in ks) own j.on) (key_of front r) (key_of own s)) are
      ∙ meets-kept front more own r s j.on (kept-on j.on on)
    where
      kept-on : (es : List Equality) → AllByRecursion (IsCovered j.source) es → AllByRecursion (ReadsKept front more (columns j.source) r s) es
      kept-on [] c = tt
      kept-on (q ∷ es) c = ((λ k. h q.left (grind (arith, nat_tests, k, e)) c.0.0, λ k. c.0.1 (grind (arith, nat_tests, k, d))), kept-on es c.1)

  module _ (tables : Tables) (wide : HaveWidths width tables) where
    -- the joined rows have all columns
    pub chain-wide : (n : ℕ) (xs : Weighted) (js : List Join) → HasWidth n xs → HasWidth (columns_behind n js) (chain tables xs js)
    chain-wide n xs [] w = w
    chain-wide n xs (j ∷ js) w = chain-wide (n + width j.source) (joined (meets j.on) xs (tables j.source)) js (joined-width (meets j.on) n (width j.source) xs (tables j.source) w (wide j.source))

    -- one join of narrower rows
    pub next-narrow : (kept front more : List ℕ) (n : ℕ) (xs : Weighted) (j : Join) → kept ≡ front ++ more → HasWidth n xs → AllByRecursion (λ c. c < n) front → HasRead n front → AllByRecursion (IsCovered j.source) j.on
        → joined (meets (renamed_join (place_in kept) columns j).on) (projected (key_of front) xs) (projected (key_of (columns j.source)) (tables j.source))
        ≡ projected (key_of (front ++ behind n (columns j.source))) (joined (meets j.on) xs (tables j.source))
    next-narrow kept front more n xs j are w below h on =
        let own = columns j.source in
        let narrower = meets (renamed_join (place_in kept) columns j).on in
        joined-through narrower (meets j.on) (key_of front) (key_of own) (key_of (front ++ behind n own)) xs (tables j.source)
        (both-wide (GoTogether narrower (meets j.on) (key_of front) (key_of own) (key_of (front ++ behind n own))) n (width j.source)
        (λ r s e d. (meets-narrow kept front more n j are h on r s e d, sym (key-joined front own n r s e below)))
        xs (tables j.source) w (wide j.source))

    -- a chain of them
    pub chain-narrow : (kept front : List ℕ) (n : ℕ) (xs : Weighted) (js : List Join) → kept ≡ all_places front n js → HasWidth n xs → AllByRecursion (λ c. c < n) front → HasRead n front → AreCovered n js
        → chain (λ s. projected (key_of (columns s)) (tables s)) (projected (key_of front) xs) (map (renamed_join (place_in kept) columns) js) ≡ projected (key_of kept) (chain tables xs js)
    chain-narrow kept front n xs [] are w below h c = ap (λ (ks : List ℕ). projected (key_of ks) xs) (sym (are ∙ append-nil front))
    chain-narrow kept front n xs (j ∷ js) are w below h c =
        let own = columns j.source in
        let next = joined (meets j.on) xs (tables j.source) in
        ap (λ (zs : Weighted). chain (λ s. projected (key_of (columns s)) (tables s)) zs (map (renamed_join (place_in kept) columns) js))
        (next-narrow kept front (places_from columns n (map (λ k. k.source) (j ∷ js)) (map width (map (λ k. k.source) (j ∷ js)))) n xs j are w below h c.1)
        ∙ chain-narrow kept (front ++ behind n own) (n + width j.source) next js (are ∙ more-places front n j js c.0.within) (joined-width (meets j.on) n (width j.source) xs (tables j.source) w (wide j.source))
        (below-joined n (width j.source) front own below c.0.within) (has_read-more n j.source front h c.0) c.2
