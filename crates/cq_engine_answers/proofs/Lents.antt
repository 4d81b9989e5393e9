-- Lent rows: what each entry has, the rows of each source have that entries were made for.
use Rattle.std.proofs.Common.{◌≡◌, true, List, [], ◌∷◌, ap, map, refl, sym, subst}
use Rattle.std.specs.List.{AllByRecursion, list_any}
use Rattle.cq_values.specs.Value.{Row}
use Rattle.cq_model_bags.proofs.Totals.{by_test}
use Rattle.cq_model.specs.declared.query.Join.{Join}
use Rattle.cq_model.specs.declared.query.Source.{Source}
use Rattle.cq_table_columns.specs.Stored.{all_rows}
use Rattle.cq_table_columns.specs.declared.stored_source.StoredSource.{StoredSource}
use Rattle.cq_model.specs.Sources.{same_source}
use Rattle.cq_table_columns.specs.Sources.{rows_or}
use Rattle.cq_model_state.specs.Pointwise.{Pointwise}
use Rattle.cq_model.proofs.SameSources.{itself, only_itself}

-- a source has an entry
abbrev pub IsThereIn : List StoredSource → Source → Type 0
IsThereIn lents s = list_any (λ l. same_source l.source s) lents ≡ true

-- also with an entry before the others
there-more : (l : StoredSource) (lents : List StoredSource) (sources : List Source) → AllByRecursion (IsThereIn lents) sources → AllByRecursion (IsThereIn (l ∷ lents)) sources
there-more l lents [] h = tt
there-more l lents (s ∷ sources) h = (by_test (same_source l.source s) (λ k. rw k refl) (λ k. rw k h.0), there-more l lents sources h.1)

-- the entries were made for these sources, one for each
abbrev pub AreFor : List Source → List StoredSource → Type 0
AreFor sources lents = Pointwise (λ (s : Source) (l : StoredSource). l.source ≡ s) sources lents

-- so each of these has one
all-there : (sources : List Source) (lents : List StoredSource) → AreFor sources lents → AllByRecursion (IsThereIn lents) sources
all-there [] [] h = tt
all-there [] (l ∷ lents) h = absurd h
all-there (s ∷ sources) [] h = absurd h
all-there (s ∷ sources) (l ∷ lents) h =
    let here : same_source l.source s ≡ true = subst (λ (t : Source). same_source t s ≡ true) (sym h.0) (itself s) in
    (rw here refl, there-more l lents sources (all-there sources lents h.1))

module _ (P : Source → List Row → Type 0) where
  -- the first entry of a source has what each has
  first-has : (lents : List StoredSource) → AllByRecursion (λ l. P l.source (all_rows l.rows)) lents → (s : Source) → IsThereIn lents s → P s (rows_or lents s [])
  first-has [] all s found = absurd (cc found)
  first-has (l ∷ lents) all s found = by_test (same_source l.source s)
      (λ k. rw k (subst (λ (t : Source). P t (all_rows l.rows)) (only_itself l.source s k) all.0))
      (λ k. rw k (first-has lents all.1 s (rw k at found)))

  all-first-have : (lents : List StoredSource) → AllByRecursion (λ l. P l.source (all_rows l.rows)) lents → (sources : List Source) → AllByRecursion (IsThereIn lents) sources → AllByRecursion (λ s. P s (rows_or lents s [])) sources
  all-first-have lents all [] there = tt
  all-first-have lents all (s ∷ sources) there = (first-has lents all s there.0, all-first-have lents all sources there.1)

  -- so do the rows of each source that entries were made for
  pub sources-have : (sources : List Source) (lents : List StoredSource) → AreFor sources lents → AllByRecursion (λ l. P l.source (all_rows l.rows)) lents → AllByRecursion (λ s. P s (rows_or lents s [])) sources
  sources-have sources lents made all = all-first-have lents all sources (all-there sources lents made)

-- the rows of the sources of joins, in their order
pub rows-in-turn : (lents : List StoredSource) (joins : List Join) → map (λ j. rows_or lents j.source []) joins ≡ map (λ s. rows_or lents s []) (map (λ j. j.source) joins)
rows-in-turn lents [] = refl
rows-in-turn lents (j ∷ joins) = ap (λ (others : List (List Row)). rows_or lents j.source [] ∷ others) (rows-in-turn lents joins)
