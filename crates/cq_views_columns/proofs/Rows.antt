-- Where the columns that are kept of a row stand in the narrower row.
use Rattle.std.proofs.Common.{◌≡◌, ℕ, zero, suc, ◌+◌, ◌<◌, ◌≤◌, ◌==◌, Bool, true, false, ◌||◌, nat_lt, List, [], ◌∷◌, ◌++◌, length, get_or, filter, refl, sym, ◌∙◌, ap, arith}
use Rattle.std.proofs.lemmas.Bool.Decides.{nat_tests}
use Rattle.std.proofs.lemmas.Bool.{eq-eqb, eqb-true, or_left, or_right}
use Rattle.std.proofs.lemmas.List.{append-nil, get_or-append-add, get_or_append_left, get_or_past}
use Rattle.std.specs.List.{AllByRecursion, range_with_len}
use Rattle.cq_values.specs.declared.value.Value.TheVariants.{Null}
use Rattle.cq_values.specs.Value.{Row, column}
use Rattle.cq_model_bags.proofs.Totals.{by_test}
use Rattle.cq_model.specs.Group.{key_of}
use Rattle.cq_model_terms.specs.Places.{is_one_of, place_in}
use Rattle.cq_views_columns.specs.Places.{behind, below}

-- ---- places
-- a place that is one of the first is one of all
pub is_one-front : (front back : List ℕ) (i : ℕ) → is_one_of front i ≡ true → is_one_of (front ++ back) i ≡ true
is_one-front [] back i h = absurd (cc)
is_one-front (k ∷ front) back i h = by_test (k == i)
    (λ e. or_left (k == i) (is_one_of (front ++ back) i) e)
    (λ e. or_right (k == i) (is_one_of (front ++ back) i) (is_one-front front back i (sym (ap (λ b. b || is_one_of front i) e) ∙ h)))

-- and so is one of the last
is_one-back : (front back : List ℕ) (i : ℕ) → is_one_of back i ≡ true → is_one_of (front ++ back) i ≡ true
is_one-back [] back i h = h
is_one-back (k ∷ front) back i h = or_right (k == i) (is_one_of (front ++ back) i) (is_one-back front back i h)

-- a column of a source is one of the places behind others
is_one-behind : (before : ℕ) (columns : List ℕ) (c : ℕ) → is_one_of columns c ≡ true → is_one_of (behind before columns) (before + c) ≡ true
is_one-behind before [] c h = absurd (cc)
is_one-behind before (k ∷ columns) c h = by_test (k == c)
    (λ e. or_left (before + k == before + c) (is_one_of (behind before columns) (before + c)) (eq-eqb (before + k) (before + c) (ap (λ (n : ℕ). before + n) (eqb-true k c e))))
    (λ e. or_right (before + k == before + c) (is_one_of (behind before columns) (before + c)) (is_one-behind before columns c (sym (ap (λ b. b || is_one_of columns c) e) ∙ h)))

pub is_one-joined : (front : List ℕ) (before : ℕ) (columns : List ℕ) (c : ℕ) → is_one_of columns c ≡ true → is_one_of (front ++ behind before columns) (before + c) ≡ true
is_one-joined front before columns c h = is_one-back front (behind before columns) (before + c) (is_one-behind before columns c h)

-- all of them are below the width of both parts
pub below-joined : (n wide : ℕ) (front back : List ℕ) → AllByRecursion (λ c. c < n) front → AllByRecursion (λ c. c < wide) back → AllByRecursion (λ c. c < n + wide) (front ++ behind n back)
below-joined n wide [] [] f b = tt
below-joined n wide [] (c ∷ back) f b = (omega (arith, b.0), below-joined n wide [] back tt b.1)
below-joined n wide (c ∷ front) back f b = (omega (arith, f.0), below-joined n wide front back f.1 b)

-- columns that are all there
pub all-below : (wide : ℕ) (columns : List ℕ) → AllByRecursion (λ c. c < wide) columns → below wide columns ≡ columns
all-below wide [] h = refl
all-below wide (c ∷ columns) h =
    let here : nat_lt c wide ≡ true = grind (arith, nat_tests, h.0) in
    rw here (ap (λ (cs : List ℕ). c ∷ cs) (all-below wide columns h.1))

-- ---- columns
-- a column that is kept, or that the row does not have, has its value where it stands then
pub column-kept : (kept more : List ℕ) (row : Row) (i : ℕ) → (nat_lt i (length row) ≡ true → is_one_of kept i ≡ true) → column (key_of kept row) (place_in (kept ++ more) i) ≡ column row i
column-kept [] more row i h = by_test (nat_lt i (length row))
    (λ k. let none : false ≡ true = h k in absurd (cc none))
    (λ k. sym (get_or_past row i Null (grind (arith, nat_tests, k))))
column-kept (k ∷ kept) more row i h = by_test (k == i)
    (λ e. rw e (ap (column row) (eqb-true k i e)))
    (λ e. rw e (column-kept kept more row i (λ b. sym (ap (λ t. t || is_one_of kept i) e) ∙ h b)))

pub column-of-kept : (kept : List ℕ) (row : Row) (i : ℕ) → (nat_lt i (length row) ≡ true → is_one_of kept i ≡ true) → column (key_of kept row) (place_in kept i) ≡ column row i
column-of-kept kept row i h = ap (λ (ks : List ℕ). column (key_of kept row) (place_in ks i)) (sym (append-nil kept)) ∙ column-kept kept [] row i h

-- the columns of a row that stands behind another
key-behind : (back : List ℕ) (n : ℕ) (r s : Row) → length r ≡ n → key_of (behind n back) (r ++ s) ≡ key_of back s
key-behind [] n r s e = refl
key-behind (c ∷ back) n r s e =
    let here : column (r ++ s) (n + c) ≡ column s c = ap (λ (m : ℕ). get_or (r ++ s) (m + c) Null) (sym e) ∙ get_or-append-add r s c Null in
    λ i. here i ∷ key-behind back n r s e i

-- and of both
pub key-joined : (front back : List ℕ) (n : ℕ) (r s : Row) → length r ≡ n → AllByRecursion (λ c. c < n) front → key_of (front ++ behind n back) (r ++ s) ≡ key_of front r ++ key_of back s
key-joined [] back n r s e b = key-behind back n r s e
key-joined (c ∷ front) back n r s e b =
    let here : column (r ++ s) c ≡ column r c = get_or_append_left r s Null c (omega (arith, e, b.0)) in
    λ i. here i ∷ key-joined front back n r s e b.1 i

-- ---- columns that pass a test
pub range-below : (p : ℕ → Bool) (a n m : ℕ) → a + n ≤ m → AllByRecursion (λ c. c < m) (filter p (range_with_len a n))
range-below p a zero m h = tt
range-below p a (suc n) m h = by_test (p a)
    (λ k. rw k (omega (arith, h), range-below p (a + 1) n m (omega (arith, h))))
    (λ k. rw k (range-below p (a + 1) n m (omega (arith, h))))

pub range-has : (p : ℕ → Bool) (a n c : ℕ) → a ≤ c → c < a + n → p c ≡ true → is_one_of (filter p (range_with_len a n)) c ≡ true
range-has p a zero c low high k = absurd (omega (arith, low, high))
range-has p a (suc n) c low high k = by_test (a == c)
    (λ e. let here : p a ≡ true = ap p (eqb-true a c e) ∙ k in rw here (or_left (a == c) (is_one_of (filter p (range_with_len (a + 1) n)) c) e))
    (λ e. let above : a + 1 ≤ c = grind (arith, nat_tests, e, low) in
    let rest = range-has p (a + 1) n c above (omega (arith, high)) k in
    by_test (p a) (λ t. rw t (or_right (a == c) (is_one_of (filter p (range_with_len (a + 1) n)) c) rest)) (λ t. rw t rest))
