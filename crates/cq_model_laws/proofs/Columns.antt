-- Joined rows keep the sizes of the columns of their sources.
use Rattle.std.proofs.Common.{◌≡◌, ℕ, zero, suc, ℤ, pos, negsuc, ◌*ℤ◌, ◌<ℤ◌, ◌≤ℤ◌, int_lt, Bool, true, false, cond, List, [], ◌∷◌, ◌++◌, map, length, sym, append_assoc, arith, subst}
use Rattle.std.specs.List.{AllByRecursion, flat_map}
use Rattle.std.proofs.lemmas.Int.{ints}
use Rattle.std.proofs.lemmas.List.{append-nil}
use Rattle.cq_values.specs.Keys.{same_row-same}
use Rattle.cq_values.specs.Order.{same_row}
use Rattle.cq_values.specs.Value.{Row}
use Rattle.cq_model_bags.specs.Bag.{IsBag, Weighted, distinct, distinct_rows, filtered, joined, once_each, total, weight_of}
use Rattle.cq_model_bags.proofs.Entries.{ArePositive, bag-entries, distinct_rows-positive, weighed}
use Rattle.cq_model_bags.proofs.Joins.{beside, weight_of-joined}
use Rattle.cq_model_bags.proofs.Listings.{weight_of-once_each}
use Rattle.cq_model_bags.proofs.Positives.{joined-bag, kept-there}
use Rattle.cq_model_bags.proofs.Totals.{by_test, is_row, total-respects}
use Rattle.cq_model.specs.declared.query.Join.{Join}
use Rattle.cq_model.specs.declared.query.Query.{Query}
use Rattle.cq_model.specs.declared.query.Source.{Source}
use Rattle.cq_model.specs.Meaning.{Tables, chain, keeps, meets}
use Rattle.cq_model.specs.Views.{sources_of}
use Rattle.cq_model.specs.Width.{limits_of}
use Rattle.cq_model_laws.specs.Sizes.{HasSizes, JoinedHaveSizes, KeepsColumns}
use Rattle.cq_model.specs.Sizes.{IsSized}
use Rattle.cq_model_laws.proofs.Fits.{FitBeside, beside-append, beside-at, row-of}
use Rattle.cq_model_laws.proofs.Ranges.{all-at}

-- ---- a sum above zero has a term above zero
-- nothing above zero comes of a number above zero and one that is not
product-low : (a b : ℤ) → pos 0 <ℤ a → b ≤ℤ pos 0 → (a *ℤ b) ≤ℤ pos 0
product-low (pos m) (pos zero) p q = omega (arith, ints)
product-low (pos m) (pos (suc n)) p q = absurd (omega (arith, ints, q))
product-low (pos m) (negsuc n) p q = omega (arith, ints)
product-low (negsuc m) b p q = absurd (omega (arith, ints, p))

-- over rows that are there
listed-term : (w f : Row → ℤ) (rows : List Row) → ArePositive w rows → pos 0 <ℤ total f (weighed w (once_each rows)) → (r : Row) × (pos 0 <ℤ w r) × (pos 0 <ℤ f r)
listed-term w f [] p h = absurd (omega (arith, ints, h))
listed-term w f (r ∷ rows) p h = by_test (int_lt (pos 0) (f r))
    (λ k. (r, omega (arith, ints, p.0), omega (arith, ints, k)))
    (λ k.
    let low = product-low (pos 1 *ℤ w r) (f r) (omega (arith, ints, p.0)) (omega (arith, ints, k)) in
    listed-term w f rows p.1 (omega (arith, ints, h, low)))

-- over a bag
pub bag-term : (f : Row → ℤ) (xs : Weighted) → IsBag xs → pos 0 <ℤ total f xs → (r : Row) × (pos 0 <ℤ weight_of xs r) × (pos 0 <ℤ f r)
bag-term f xs b h =
    listed-term (weight_of xs) f (distinct_rows xs) (distinct_rows-positive xs)
    (subst (λ n. pos 0 <ℤ n) (sym (total-respects f (weighed (weight_of xs) (distinct xs)) xs (bag-entries xs b))) h)

-- ---- rows that are there
-- one of two tests that both hold
both-hold : (a b : Bool) → pos 0 <ℤ cond a (cond b (pos 1) (pos 0)) (pos 0) → b ≡ true
both-hold true true h = cc
both-hold true false h = absurd (omega (arith, ints, h))
both-hold false b h = absurd (omega (arith, ints, h))

-- a row of each side of a join, one behind the other
record PartsOf (xs ys : Weighted) (row : Row) : Type 0 where
  pub first : Row
  pub second : Row
  pub first_there : pos 0 <ℤ weight_of xs first
  pub second_there : pos 0 <ℤ weight_of ys second
  pub whole : first ++ second ≡ row

-- each row that is there in a join has its parts
parts-of : (on : Row → Row → Bool) (xs ys : Weighted) → IsBag xs → IsBag ys → (row : Row) → pos 0 <ℤ weight_of (joined on xs ys) row → PartsOf xs ys row
parts-of on xs ys b c row h =
    let left = bag-term (λ r. total (beside (is_row row) on r) ys) xs b (subst (λ n. pos 0 <ℤ n) (weight_of-joined on xs ys row) h) in
    let right = bag-term (beside (is_row row) on left.0) ys c left.2 in
    record {
      first = left.0;
      second = right.0;
      first_there = left.1;
      second_there = right.1;
      whole = same_row-same (left.0 ++ right.0) row (both-hold (on left.0 right.0) (same_row (left.0 ++ right.0) row) right.2);
    }

-- ---- sizes of rows
-- values of these sizes stand beside them
beside-sizes : (vs : Row) (ns : List ℕ) → length vs ≡ length ns → IsSized (limits_of ns) vs → FitBeside vs ns
beside-sizes [] [] e h = tt
beside-sizes [] (n ∷ ns) e h = absurd (omega (arith, e))
beside-sizes (v ∷ vs) [] e h = absurd (omega (arith, e))
beside-sizes (v ∷ vs) (n ∷ ns) e h = (h 0, beside-sizes vs ns (omega (arith, e)) (λ i. h (suc i)))

-- as many as there are sizes
beside-length : (vs : Row) (ns : List ℕ) → FitBeside vs ns → length vs ≡ length ns
beside-length [] [] h = omega arith
beside-length [] (n ∷ ns) h = absurd h
beside-length (v ∷ vs) [] h = absurd h
beside-length (v ∷ vs) (n ∷ ns) h = omega (arith, beside-length vs ns h.1)

-- and the other way
pub sizes-beside : (vs : Row) (ns : List ℕ) → FitBeside vs ns → HasSizes ns vs
sizes-beside vs ns h = record { values = beside-length vs ns h; sized = beside-at vs ns h }

-- a row of two parts has the sizes of both
append-sizes : (ns ms : List ℕ) (r s : Row) → HasSizes ns r → HasSizes ms s → HasSizes (ns ++ ms) (r ++ s)
append-sizes ns ms r s h k =
    sizes-beside (r ++ s) (ns ++ ms) (beside-append r ns s ms (beside-sizes r ns h.values h.sized) (beside-sizes s ms k.values k.sized))

-- ---- sizes of bags
-- rows of a list that have them all
pub listed-columns : (sizes : List ℕ) (rows : List Row) → AllByRecursion (HasSizes sizes) rows → KeepsColumns sizes (once_each rows)
listed-columns sizes rows all row h = all-at (HasSizes sizes) rows all row (row-of row rows (omega (arith, ints, h, weight_of-once_each rows row)))

-- a join
joined-columns : (on : Row → Row → Bool) (ns ms : List ℕ) (xs ys : Weighted) → IsBag xs → IsBag ys → KeepsColumns ns xs → KeepsColumns ms ys → KeepsColumns (ns ++ ms) (joined on xs ys)
joined-columns on ns ms xs ys b c h k row there =
    let p = parts-of on xs ys b c row there in
    subst (HasSizes (ns ++ ms)) p.whole (append-sizes ns ms p.first p.second (h p.first p.first_there) (k p.second p.second_there))

-- a condition
pub filtered-columns : (keep : Row → Bool) (sizes : List ℕ) (xs : Weighted) → KeepsColumns sizes xs → KeepsColumns sizes (filtered keep xs)
filtered-columns keep sizes xs h row there = h row (kept-there keep xs row there)

module _ (tables : Tables) (sizes : Source → List ℕ) where
  -- a chain
  chain-columns : (ns : List ℕ) (xs : Weighted) → IsBag xs → KeepsColumns ns xs → (js : List Join)
      → AllByRecursion (λ s. IsBag (tables s)) (map (λ (j : Join). j.source) js) → AllByRecursion (λ s. KeepsColumns (sizes s) (tables s)) (map (λ (j : Join). j.source) js)
      → KeepsColumns (ns ++ flat_map sizes (map (λ (j : Join). j.source) js)) (chain tables xs js)
  chain-columns ns xs b h [] bags columns = subst (λ ms. KeepsColumns ms xs) (sym (append-nil ns)) h
  chain-columns ns xs b h (j ∷ js) bags columns =
      let source = tables j.source in
      let rest = flat_map sizes (map (λ (k : Join). k.source) js) in
      subst (λ ms. KeepsColumns ms (chain tables (joined (meets j.on) xs source) js)) (append_assoc ns (sizes j.source) rest)
      (chain-columns (ns ++ sizes j.source) (joined (meets j.on) xs source) (joined-bag (meets j.on) xs source b bags.0)
      (joined-columns (meets j.on) ns (sizes j.source) xs source b bags.0 h columns.0) js bags.1 columns.1)

-- the joined rows of a query
pub joined_have_sizes : (q : Query) (tables : Tables) (sizes : Source → List ℕ) → AllByRecursion (λ s. IsBag (tables s)) (sources_of q)
    → AllByRecursion (λ s. KeepsColumns (sizes s) (tables s)) (sources_of q) → JoinedHaveSizes (flat_map sizes (sources_of q)) q tables
joined_have_sizes q tables sizes bags columns =
    let all = flat_map sizes (sources_of q) in
    let joined = chain-columns tables sizes (sizes q.first) (tables q.first) bags.0 columns.0 q.joins bags.1 columns.1 in
    record { joined = joined; kept = filtered-columns (keeps q.filter) all (chain tables (tables q.first) q.joins) joined }
