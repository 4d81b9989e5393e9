-- A query whose columns are renamed means over the narrower rows what it means over the whole rows, and its joins do no more work.
use Rattle.std.proofs.Common.{◌≡◌, ◌↔◌, ℕ, ◌+◌, ◌<◌, ◌≤◌, true, ◌||◌, if◌then◌else◌, List, [], ◌∷◌, ◌++◌, map, length, refl, sym, ◌∙◌, ap, subst, arith}
use Rattle.std.proofs.lemmas.Bool.Decides.{nat_tests}
use Rattle.std.specs.List.{AllByRecursion, list_any}
use Rattle.std.specs.Option.{option_map}
use Rattle.cq_values.specs.Value.{Row, column}
use Rattle.cq_model_bags.specs.Bag.{IsBag, Weighted, distinct, filtered, projected}
use Rattle.cq_model_bags.specs.Join.{HasWidth}
use Rattle.cq_model_bags.proofs.Widths.{filtered-width}
use Rattle.cq_model.specs.Pushed.{HaveWidths}
use Rattle.cq_model_laws.proofs.Positives.{joined_rows-bag}
use Rattle.cq_model.specs.Group.{key_of}
use Rattle.cq_model.specs.Meaning.{MeaningInRange, ShapeInRange, Tables, chain, joined_rows, keeps, meaning, shown}
use Rattle.cq_model.specs.Sizes.{column_sizes}
use Rattle.cq_model.specs.Views.{sources_of}
use Rattle.cq_model.specs.declared.query.Query.{Query}
use Rattle.cq_model.specs.declared.query.Source.{Source}
use Rattle.cq_views_model.specs.Delta.{chain_work, joins_work}
use Rattle.cq_views_model.specs.Query.{CanBeKept}
use Rattle.cq_views_columns.specs.Laws.{IsRenamedOf}
use Rattle.cq_views_columns.specs.Narrow.{HaveColumns, HaveColumnsAlike, IsNarrowOf, columns_at, narrowed_bags, renamed_query, sources_read}
use Rattle.cq_model_terms.specs.Places.{is_one_of, place_in}
use Rattle.cq_views_columns.specs.Places.{behind, places_from}
use Rattle.cq_views_columns.specs.Reads.{reads_filter, reads_joined, reads_left, reads_shape}
use Rattle.cq_model_terms.specs.Renamed.{renamed_cond}
use Rattle.cq_views_columns.specs.declared.columns.SourceColumns.{SourceColumns}
use Rattle.cq_views_columns.specs.declared.narrow_query.NarrowQuery.{NarrowQuery}
use Rattle.cq_views_columns.proofs.Covered.{all-covered, first-covers}
use Rattle.cq_views_columns.proofs.Grouped.{filtered-narrow, shape-range, shown-narrow}
use Rattle.cq_views_columns.proofs.Joined.{AreCovered, Covers, HasRead, all_places, chain-narrow, chain-wide, columns_behind, has_read-all, has_read-more}
use Rattle.std.proofs.lemmas.Bool.{or_left, or_right}
use Rattle.cq_views_columns.proofs.Rows.{all-below, below-joined, column-of-kept}
use Rattle.cq_views_columns.proofs.Works.{work-narrow}
use Rattle.cq_views_columns.proofs.RenamedCanBeKept.{renamed-kept, renamed-sizes, renamed-sources}
use Rattle.cq_model_terms.specs.Laws.{AreSameOn}

-- columns for each source, among which are those that the query reads
module _ (q : Query) (columns : Source → List ℕ) (width : Source → ℕ) (first : Covers (reads_joined q) columns width 0 q.first)
    (joins : AreCovered (reads_joined q) columns width (0 + width q.first) q.joins) where
  abbrev places : List ℕ
  places = places_from columns 0 (sources_of q) (map width (sources_of q))

  abbrev new : Query
  new = renamed_query places columns q

  abbrev narrower : Tables → Tables
  narrower bags source = projected (key_of (columns source)) (bags source)

  -- the places of the first source's columns
  abbrev front : List ℕ
  front = behind 0 (columns q.first)

  abbrev count : ℕ
  count = columns_behind (reads_joined q) columns width (0 + width q.first) q.joins

  same-front : (cs : List ℕ) → behind 0 cs ≡ cs
  same-front [] = refl
  same-front (c ∷ cs) =
      let same : 0 + c ≡ c = omega arith in
      let rest = same-front cs in
      λ i. same i ∷ rest i

  -- the first source's rows have its width
  wide-first : (tables : Tables) → HaveWidths width tables → HasWidth (0 + width q.first) (tables q.first)
  wide-first tables wide = subst (λ (n : ℕ). HasWidth n (tables q.first)) (omega arith) (wide q.first)

  -- its columns are among its width, and are those that are read of it
  front-below : AllByRecursion (λ c. c < 0 + width q.first) front
  front-below = below-joined 0 (width q.first) [] (columns q.first) tt first.within

  front-read : HasRead (reads_joined q) columns width (0 + width q.first) front
  front-read = has_read-more (reads_joined q) columns width 0 q.first [] (λ i low k. absurd (omega (arith, low))) first

  -- the places of all are those of the first source's columns and of those behind
  are-places : places ≡ all_places (reads_joined q) columns width front (0 + width q.first) q.joins
  are-places =
      let later = places_from columns (0 + width q.first) (map (λ j. j.source) q.joins) (map width (map (λ j. j.source) q.joins)) in
      ap (λ (cs : List ℕ). behind 0 cs ++ later) (all-below (width q.first) (columns q.first) first.within)

  -- each has in its new place what the whole row has in a column that is read
  good : (row : Row) → length row ≡ count → AreSameOn (λ i. column (key_of places row) (place_in places i)) (column row) (reads_joined q)
  good row l i h =
      let has = has_read-all (reads_joined q) columns width (0 + width q.first) front q.joins front-read joins in
      column-of-kept places row i (λ b. ap (λ (ks : List ℕ). is_one_of ks i) are-places ∙ has i (grind (arith, nat_tests, b, l)) h)

  -- for bags whose rows have these widths
  module _ (tables : Tables) (wide : HaveWidths width tables) (bags : (source : Source) → IsBag (tables source)) where
    -- the narrower joined rows
    chain-same : chain (narrower tables) (narrower tables q.first) new.joins ≡ projected (key_of places) (chain tables (tables q.first) q.joins)
    chain-same =
        ap (λ (cs : List ℕ). chain (narrower tables) (projected (key_of cs) (tables q.first)) new.joins) (sym (same-front (columns q.first)))
        ∙ chain-narrow (reads_joined q) columns width tables wide places front (0 + width q.first) (tables q.first) q.joins are-places (wide-first tables wide) front-below front-read joins

    chain-count : HasWidth count (chain tables (tables q.first) q.joins)
    chain-count = chain-wide (reads_joined q) columns width tables wide (0 + width q.first) (tables q.first) q.joins (wide-first tables wide)

    -- WHERE keeps the same
    joined-same : joined_rows new (narrower tables) ≡ projected (key_of places) (joined_rows q tables)
    joined-same =
        ap (filtered (keeps (option_map (renamed_cond (place_in places)) q.filter))) chain-same
        ∙ filtered-narrow (key_of places) (place_in places) count (reads_joined q) good q.filter
        (λ i h. or_right (list_any (reads_left i) q.joins) (reads_filter i q.filter || reads_shape i q.shape q.items)
        (or_left (reads_filter i q.filter) (reads_shape i q.shape q.items) h)) (chain tables (tables q.first) q.joins) chain-count

    rows-count : HasWidth count (joined_rows q tables)
    rows-count = filtered-width count (keeps q.filter) (chain tables (tables q.first) q.joins) chain-count

    shape-read : (i : ℕ) → reads_shape i q.shape q.items ≡ true → reads_joined q i ≡ true
    shape-read i h = or_right (list_any (reads_left i) q.joins) (reads_filter i q.filter || reads_shape i q.shape q.items) (or_right (reads_filter i q.filter) (reads_shape i q.shape q.items) h)

    shown-same : shown new (joined_rows new (narrower tables)) ≡ shown q (joined_rows q tables)
    shown-same =
        ap (shown new) joined-same
        ∙ shown-narrow (key_of places) (place_in places) count (reads_joined q) good q.shape q.items shape-read (joined_rows q tables) rows-count (joined_rows-bag q tables bags)

    pub meaning-same : meaning new (narrower tables) ≡ meaning q tables
    meaning-same = ap (λ (rows : Weighted). if q.distinct then distinct rows else rows) shown-same

    pub range-same : MeaningInRange new (narrower tables) ↔ MeaningInRange q tables
    range-same =
        let way = shape-range (key_of places) (place_in places) count (reads_joined q) good q.shape q.items shape-read (joined_rows q tables) rows-count in
        (λ h. way.0 (subst (ShapeInRange new.shape) joined-same h), λ h. subst (ShapeInRange new.shape) (sym joined-same) (way.1 h))

  -- the work of its joins
  pub work-less : (tables changes : Tables) → HaveWidths width tables → HaveWidths width changes → joins_work new (narrower tables) (narrower changes) ≤ joins_work q tables changes
  work-less tables changes wide more =
      subst (λ (cs : List ℕ). chain_work (narrower tables) (narrower changes) (projected (key_of cs) (tables q.first)) (projected (key_of cs) (changes q.first)) new.joins ≤ joins_work q tables changes)
      (same-front (columns q.first))
      (work-narrow (reads_joined q) columns width tables changes wide more places front (0 + width q.first) (tables q.first) (changes q.first) q.joins
      are-places (wide-first tables wide) (wide-first changes more) front-below front-read joins)

-- the columns that are read, for widths of the sources
abbrev read_of : Query → List ℕ → Source → List ℕ
read_of q widths = columns_at (sources_read q widths (sources_of q) widths)

abbrev new_of : Query → List ℕ → Query
new_of q widths = renamed_query (places_from (read_of q widths) 0 (sources_of q) widths) (read_of q widths) q

abbrev bags_of : Query → List ℕ → Tables → Tables
bags_of q widths tables = narrowed_bags (sources_read q widths (sources_of q) widths) tables

bag-read : (q : Query) (widths : List ℕ) (tables : Tables) → HaveColumns q widths tables → meaning (new_of q widths) (bags_of q widths tables) ≡ meaning q tables
bag-read q widths tables h =
    subst (λ (ws : List ℕ). meaning (new_of q ws) (bags_of q ws tables) ≡ meaning q tables) h.from
    (meaning-same q (read_of q (map h.width (sources_of q))) h.width (first-covers q h.width) (all-covered q h.width) tables h.rows h.bags)

range-read : (q : Query) (widths : List ℕ) (tables : Tables) → HaveColumns q widths tables → MeaningInRange (new_of q widths) (bags_of q widths tables) ↔ MeaningInRange q tables
range-read q widths tables h =
    subst (λ (ws : List ℕ). MeaningInRange (new_of q ws) (bags_of q ws tables) ↔ MeaningInRange q tables) h.from
    (range-same q (read_of q (map h.width (sources_of q))) h.width (first-covers q h.width) (all-covered q h.width) tables h.rows h.bags)

work-read : (q : Query) (widths : List ℕ) (tables changes : Tables) → HaveColumnsAlike q widths tables changes
    → joins_work (new_of q widths) (bags_of q widths tables) (bags_of q widths changes) ≤ joins_work q tables changes
work-read q widths tables changes h =
    subst (λ (ws : List ℕ). joins_work (new_of q ws) (bags_of q ws tables) (bags_of q ws changes) ≤ joins_work q tables changes) h.from
    (work-less q (read_of q (map h.width (sources_of q))) h.width (first-covers q h.width) (all-covered q h.width) tables changes h.rows h.more)

-- the statement of the law
pub renamed-means : (whole : Query) (widths : List ℕ) (new : NarrowQuery) → IsRenamedOf whole widths new → IsNarrowOf whole widths new
renamed-means whole widths new is =
    let places = places_from (read_of whole widths) 0 (sources_of whole) widths in
    let made : new.query ≡ new_of whole widths =
    is.query ∙ ap (λ (cs : List SourceColumns). renamed_query (places_from (columns_at cs) 0 (sources_of whole) widths) (columns_at cs) whole) is.columns in
    record {
      columns = is.columns;
      bag = λ tables h. (λ i. meaning (made i) (narrowed_bags (is.columns i) tables)) ∙ bag-read whole widths tables h;
      range = λ tables h.
          subst (λ (cs : List SourceColumns). MeaningInRange new.query (narrowed_bags cs tables) ↔ MeaningInRange whole tables) (sym is.columns)
          (subst (λ (p : Query). MeaningInRange p (bags_of whole widths tables) ↔ MeaningInRange whole tables) (sym made) (range-read whole widths tables h));
      sources = ap sources_of made ∙ renamed-sources places (read_of whole widths) whole;
      distinct = ap (λ (q : Query). q.distinct) made;
      sizes = ap column_sizes made ∙ renamed-sizes places (read_of whole widths) whole;
      kept = λ k. subst CanBeKept (sym made) (renamed-kept places (read_of whole widths) whole k);
      work = λ tables changes h.
          subst (λ (cs : List SourceColumns). joins_work new.query (narrowed_bags cs tables) (narrowed_bags cs changes) ≤ joins_work whole tables changes) (sym is.columns)
          (subst (λ (p : Query). joins_work p (bags_of whole widths tables) (bags_of whole widths changes) ≤ joins_work whole tables changes) (sym made) (work-read whole widths tables changes h));
    }
