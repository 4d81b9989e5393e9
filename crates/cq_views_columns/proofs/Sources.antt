-- What is left at the end of the sources of FROM, and the columns that are read so far.
use Rattle.std.proofs.Common.{◌≡◌, ℕ, zero, suc, ◌+◌, Bool, true, false, List, [], ◌∷◌, ◌++◌, filter, refl, sym, ◌∙◌, ap, arith, ◌⊎◌, inl, inr}
use Rattle.std.proofs.lemmas.List.{append-nil}
use Rattle.std.specs.List.{range_with_len}
use Rattle.cq_model_bags.proofs.Totals.{by_test}
use Rattle.cq_model.specs.declared.query.Query.{Query}
use Rattle.cq_model.specs.declared.query.Source.{Source}
use Rattle.cq_views_columns.specs.Narrow.{sources_read}
use Rattle.cq_views_columns.specs.Places.{places_from}
use Rattle.cq_views_columns.specs.Reads.{reads_from}
use Rattle.cq_views_columns.specs.declared.columns.SourceColumns.{SourceColumns}

-- one of the lists is at its end
abbrev AreDone : List Source → List ℕ → Type 0
AreDone sources widths = (sources ≡ []) ⊎ (widths ≡ [])

no-places : (columns : Source → List ℕ) (n : ℕ) (sources : List Source) (widths : List ℕ) → AreDone sources widths → places_from columns n sources widths ≡ []
no-places columns n [] widths d = refl
no-places columns n (s ∷ sources) [] d = refl
no-places columns n (s ∷ sources) (w ∷ widths) (inl e) = absurd (cc e)
no-places columns n (s ∷ sources) (w ∷ widths) (inr e) = absurd (cc e)

-- then all places are there
pub all-placed : (columns : Source → List ℕ) (n : ℕ) (sources : List Source) (widths : List ℕ) → AreDone sources widths → (made all : List ℕ)
    → made ++ places_from columns n sources widths ≡ all → made ≡ all
all-placed columns n sources widths d made all h = sym (append-nil made) ∙ ap (λ (ks : List ℕ). made ++ ks) (sym (no-places columns n sources widths d)) ∙ h

no-columns : (q : Query) (all : List ℕ) (sources : List Source) (widths : List ℕ) → AreDone sources widths → sources_read q all sources widths ≡ []
no-columns q all [] widths d = refl
no-columns q all (s ∷ sources) [] d = refl
no-columns q all (s ∷ sources) (w ∷ widths) (inl e) = absurd (cc e)
no-columns q all (s ∷ sources) (w ∷ widths) (inr e) = absurd (cc e)

-- and all columns
pub all-columns : (q : Query) (widths : List ℕ) (sources : List Source) (left : List ℕ) → AreDone sources left → (made all : List SourceColumns)
    → made ++ sources_read q widths sources left ≡ all → made ≡ all
all-columns q widths sources left d made all h =
    sym (append-nil made) ∙ ap (λ (cs : List SourceColumns). made ++ cs) (sym (no-columns q widths sources left d)) ∙ h

-- and no column more is read
pub none-read : (q : Query) (source : Source) (column n : ℕ) (sources : List Source) (widths : List ℕ) → AreDone sources widths → reads_from q source column n sources widths ≡ false
none-read q source column n [] widths d = refl
none-read q source column n (s ∷ sources) [] d = refl
none-read q source column n (s ∷ sources) (w ∷ widths) (inl e) = absurd (cc e)
none-read q source column n (s ∷ sources) (w ∷ widths) (inr e) = absurd (cc e)

-- ---- ranges
-- a range that is longer by one has one column more at its end
filter-longer : (p : ℕ → Bool) (a n : ℕ) → filter p (range_with_len a (suc n)) ≡ filter p (range_with_len a n) ++ filter p ((a + n) ∷ [])
filter-longer p a zero = ap (λ (m : ℕ). filter p (m ∷ [])) (omega arith)
filter-longer p a (suc n) =
    let next : (a + 1) + n ≡ a + suc n = omega arith in
    let rest = filter-longer p (a + 1) n ∙ ap (λ (m : ℕ). filter p (range_with_len (a + 1) n) ++ filter p (m ∷ [])) next in
    by_test (p a) (λ k. rw k (ap (λ (cs : List ℕ). a ∷ cs) rest)) (λ k. rw k rest)

-- the next column passes
pub filter-with : (p : ℕ → Bool) (n : ℕ) → p n ≡ true → filter p (range_with_len 0 (n + 1)) ≡ filter p (range_with_len 0 n) ++ n ∷ []
filter-with p n h =
    let more : n + 1 ≡ suc n = omega arith in
    let last : 0 + n ≡ n = omega arith in
    ap (λ (m : ℕ). filter p (range_with_len 0 m)) more ∙ filter-longer p 0 n ∙ ap (λ (m : ℕ). filter p (range_with_len 0 n) ++ filter p (m ∷ [])) last ∙ rw h refl

-- or it does not
pub filter-without : (p : ℕ → Bool) (n : ℕ) → p n ≡ false → filter p (range_with_len 0 (n + 1)) ≡ filter p (range_with_len 0 n)
filter-without p n h =
    let more : n + 1 ≡ suc n = omega arith in
    let last : 0 + n ≡ n = omega arith in
    ap (λ (m : ℕ). filter p (range_with_len 0 m)) more ∙ filter-longer p 0 n ∙ ap (λ (m : ℕ). filter p (range_with_len 0 n) ++ filter p (m ∷ [])) last ∙ rw h (append-nil (filter p (range_with_len 0 n)))
