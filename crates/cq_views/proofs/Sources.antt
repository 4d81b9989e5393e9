-- The entries of the sources of a query.
use Rattle.std.proofs.Common.{◌≡◌, ℕ, Bool, true, ◌||◌, List, [], ◌∷◌, map, refl}
use Rattle.std.specs.List.{AllByRecursion, list_any}
use Rattle.cq_model_bags.proofs.Totals.{by_test}
use Rattle.cq_model_bags.specs.Bag.{Weighted, projected}
use Rattle.cq_views.specs.Cut.{cut_to, entry_of}
use Rattle.cq_model.specs.Sources.{same_source}
use Rattle.cq_model.specs.Group.{key_of}
use Rattle.cq_model.specs.Meaning.{Tables}
use Rattle.cq_model.specs.declared.query.Query.{Query}
use Rattle.cq_model.specs.declared.query.Source.{Source}
use Rattle.std.proofs.lemmas.Bool.{or_left, or_right}
use Rattle.cq_views_columns.specs.Narrow.{columns_at, sources_read}
use Rattle.cq_views_columns.specs.declared.columns.SourceColumns.{SourceColumns}
use Rattle.cq_model_bags.proofs.Lists.{all-weaker}
use Rattle.cq_model.proofs.SameSources.{itself}

-- ---- entries of a query's sources
-- whether a source has an entry
abbrev has_entry : List SourceColumns → Source → Bool
has_entry columns s = list_any (λ x. same_source x.source s) columns

module _ (q : Query) (all : List ℕ) where
  -- each source of which it is told how wide it is has an entry
  all-entered : (width : Source → ℕ) (sources : List Source) → AllByRecursion (λ s. has_entry (sources_read q all sources (map width sources)) s ≡ true) sources
  all-entered width [] = tt
  all-entered width (s ∷ sources) =
      let later = sources_read q all sources (map width sources) in (
        or_left (same_source s s) (has_entry later s) (itself s),
        all-weaker (λ t. has_entry later t ≡ true) (λ t. same_source s t || has_entry later t ≡ true) (λ t h. or_right (same_source s t) (has_entry later t) h) sources (all-entered width sources),
      )

-- a source that has an entry is cut to its columns
entry-found : (columns : List SourceColumns) (s : Source) → has_entry columns s ≡ true
    → (xs : Weighted) → cut_to (entry_of columns s) xs ≡ projected (key_of (columns_at columns s)) xs
entry-found [] s h xs = absurd (cc)
entry-found (x ∷ columns) s h xs = by_test (same_source x.source s)
    (λ k. rw k refl)
    (λ k. rw k (entry-found columns s (rw k at h) xs))

-- so it is with each source of a query
pub entries-read : (q : Query) (all : List ℕ) (width : Source → ℕ) (sources : List Source) (tables : Tables)
    → AllByRecursion (λ s. cut_to (entry_of (sources_read q all sources (map width sources)) s) (tables s) ≡ projected (key_of (columns_at (sources_read q all sources (map width sources)) s)) (tables s)) sources
entries-read q all width sources tables =
    let columns = sources_read q all sources (map width sources) in
    all-weaker (λ s. has_entry columns s ≡ true) (λ s. cut_to (entry_of columns s) (tables s) ≡ projected (key_of (columns_at columns s)) (tables s))
    (λ s h. entry-found columns s h (tables s)) sources (all-entered q all width sources)
