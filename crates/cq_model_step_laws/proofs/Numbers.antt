-- Tables by their numbers: which are there, what rows they have, and how the numbers rise.
use Rattle.std.proofs.Common.{◌≡◌, ◌≢◌, ℕ, ◌+◌, ◌<◌, Bool, not, eqb, List, [], ◌∷◌, ◌++◌, refl, sym, ◌∙◌, arith, subst, ◌⊎◌, inl, inr, eqb-true, eq-eqb}
use Rattle.std.specs.Prelude.{filter}
use Rattle.cq_values.specs.Value.{Row}
use Rattle.cq_model_bags.specs.Canonical.{bag_of}
use Rattle.cq_model_bags.proofs.Totals.{by_test}
use Rattle.cq_values.specs.declared.column.ColumnDef.{ColumnDef}
use Rattle.cq_model_state.specs.State.{IsThere, TableOf, rows_in, empty_table, with_rows, AreNumbered}
use Rattle.cq_model_bags.proofs.Lists.{all-append, all-filter}

-- a table that is among the later ones is there
pub there-behind : (n : ℕ) (t : TableOf) (ts : List TableOf) → IsThere n ts → IsThere n (t ∷ ts)
there-behind n t ts h = by_test (eqb t.number n) (λ k. rw k refl) (λ k. rw k h)

-- a number that none has stands for no rows
pub rows_in-absent : (n : ℕ) (tables : List TableOf) → (IsThere n tables → ⊥) → rows_in tables n ≡ []
rows_in-absent n [] none = refl
rows_in-absent n (t ∷ ts) none = by_test (eqb t.number n)
    (λ k. absurd (none (rw k refl)))
    (λ k. rw k (rows_in-absent n ts (λ h. none (there-behind n t ts h))))

-- ---- a write
-- its rows are in the table of its number
pub rows_in-with_rows : (n : ℕ) (rows : List Row) (tables : List TableOf) → IsThere n tables → rows_in (with_rows n rows tables) n ≡ bag_of rows
rows_in-with_rows n rows [] h = absurd (cc)
rows_in-with_rows n rows (t ∷ ts) h = by_test (eqb t.number n)
    (λ k. rw (k, k) refl)
    (λ k. rw (k, k) (rows_in-with_rows n rows ts (rw k at h)))

-- and each other table keeps its own
pub rows_in-others : (n : ℕ) (rows : List Row) (tables : List TableOf) (m : ℕ) → m ≢ n → rows_in (with_rows n rows tables) m ≡ rows_in tables m
rows_in-others n rows [] m apart = refl
rows_in-others n rows (t ∷ ts) m apart =
    let later = rows_in-others n rows ts m apart in
    by_test (eqb t.number n)
    (λ k. by_test (eqb t.number m)
    (λ j. absurd (apart (sym (eqb-true t.number m j) ∙ eqb-true t.number n k)))
    (λ j. rw (k, j) later))
    (λ k. rw (k, later) refl)

-- no table comes or goes
pub there-with_rows : (n : ℕ) (rows : List Row) (tables : List TableOf) (m : ℕ) → IsThere m (with_rows n rows tables) → IsThere m tables
there-with_rows n rows [] m h = h
there-with_rows n rows (t ∷ ts) m h = by_test (eqb t.number m)
    (λ j. rw j refl)
    (λ j. there-behind m t ts (there-with_rows n rows ts m (by_test (eqb t.number n) (λ k. rw (k, j) at h) (λ k. rw (k, j) at h))))

-- ---- a new table
-- it brings no rows
pub rows_in-created : (tables : List TableOf) (number : ℕ) (name : List ℕ) (columns : List ColumnDef) (sort : List ℕ) (m : ℕ) → rows_in (tables ++ empty_table number name columns sort ∷ []) m ≡ rows_in tables m
rows_in-created [] number name columns sort m = by_test (eqb number m) (λ k. rw k refl) (λ k. rw k refl)
rows_in-created (t ∷ ts) number name columns sort m = rw (rows_in-created ts number name columns sort m) refl

-- it is there
pub there-created : (tables : List TableOf) (number : ℕ) (name : List ℕ) (columns : List ColumnDef) (sort : List ℕ) → IsThere number (tables ++ empty_table number name columns sort ∷ [])
there-created [] number name columns sort = rw (eq-eqb number number refl) refl
there-created (t ∷ ts) number name columns sort = there-behind number t (ts ++ empty_table number name columns sort ∷ []) (there-created ts number name columns sort)

-- and nothing else is new
pub there-old_or_new : (tables : List TableOf) (number : ℕ) (name : List ℕ) (columns : List ColumnDef) (sort : List ℕ) (m : ℕ) → IsThere m (tables ++ empty_table number name columns sort ∷ []) → IsThere m tables ⊎ (m ≡ number)
there-old_or_new [] number name columns sort m h = by_test (eqb number m) (λ k. inr (sym (eqb-true number m k))) (λ k. absurd (let u = rw k at h in cc))
there-old_or_new (t ∷ ts) number name columns sort m h = by_test (eqb t.number m)
    (λ k. inl (rw k refl))
    (λ k. elim (there-old_or_new ts number name columns sort m (rw k at h)) [ inl there ↦ inl (there-behind m t ts there) | inr e ↦ inr e ])

-- ---- a dropped table
-- each other one keeps its rows
pub rows_in-dropped : (n : ℕ) (tables : List TableOf) (m : ℕ) → m ≢ n → rows_in (filter (λ t. not (eqb t.number n)) tables) m ≡ rows_in tables m
rows_in-dropped n [] m apart = refl
rows_in-dropped n (t ∷ ts) m apart =
    let later = rows_in-dropped n ts m apart in
    by_test (eqb t.number n)
    (λ k. by_test (eqb t.number m)
    (λ j. absurd (apart (sym (eqb-true t.number m j) ∙ eqb-true t.number n k)))
    (λ j. rw (k, j) later))
    (λ k. rw (k, later) refl)

-- and the dropped one is gone
pub there-dropped : (n : ℕ) (tables : List TableOf) (m : ℕ) → IsThere m (filter (λ t. not (eqb t.number n)) tables) → (m ≢ n) × IsThere m tables
there-dropped n [] m h = absurd (cc)
there-dropped n (t ∷ ts) m h = by_test (eqb t.number n)
    (λ k. let later = there-dropped n ts m (rw k at h) in (later.0, there-behind m t ts later.1))
    (λ k. by_test (eqb t.number m)
    (λ j. (λ e. absurd (let u = eq-eqb t.number n (eqb-true t.number m j ∙ e) in cc), rw j refl))
    (λ j. let later = there-dropped n ts m (rw (k, j) at h) in (later.0, there-behind m t ts later.1)))

-- ---- numbers rise
-- each is below the next
pub numbered-below : (tables : List TableOf) (next : ℕ) → AreNumbered tables next → (n : ℕ) → IsThere n tables → n < next
numbered-below [] next a n h = absurd (cc)
numbered-below (t ∷ ts) next a n h = by_test (eqb t.number n)
    (λ k. subst (λ m. m < next) (eqb-true t.number n k) a.0)
    (λ k. numbered-below ts next a.2 n (rw k at h))

-- a new table takes the next
pub numbered-created : (tables : List TableOf) (next : ℕ) (name : List ℕ) (columns : List ColumnDef) (sort : List ℕ) → AreNumbered tables next → AreNumbered (tables ++ empty_table next name columns sort ∷ []) (next + 1)
numbered-created [] next name columns sort a = (omega arith, tt, tt)
numbered-created (t ∷ ts) next name columns sort a =
    let here = a.0 in
    (omega arith, all-append (λ u. t.number < u.number) ts (empty_table next name columns sort ∷ []) a.1 (a.0, tt), numbered-created ts next name columns sort a.2)

-- a dropped one leaves the others
pub numbered-dropped : (keep : TableOf → Bool) (tables : List TableOf) (next : ℕ) → AreNumbered tables next → AreNumbered (filter keep tables) next
numbered-dropped keep [] next a = tt
numbered-dropped keep (t ∷ ts) next a = by_test (keep t)
    (λ k. rw k (a.0, all-filter (λ u. t.number < u.number) keep ts a.1, numbered-dropped keep ts next a.2))
    (λ k. rw k (numbered-dropped keep ts next a.2))
