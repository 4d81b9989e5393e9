-- The rows that are gathered to build a view from: they are those of its tables, stored and few enough.
use Rattle.std.proofs.Common.{◌≡◌, ◌*◌, ◌<◌, ◌≤◌, ◌^◌, ℕ, pos, true, false, List, [], ◌∷◌, ◌++◌, length, refl, sym, ap, ◌∙◌, arith, subst}
use Rattle.std.specs.Prelude.{if◌then◌else◌}
use Rattle.std.specs.List.{AllByRecursion, flat_map}
use Rattle.std.proofs.lemmas.List.{append-nil, map-append}
use Rattle.std.proofs.lemmas.List.Concat.{flat_map-append}
use Rattle.std.proofs.lemmas.Nat.{mul-le}
use Rattle.cq_values.specs.Value.{Row}
use Rattle.cq_model_bags.specs.Bag.{Weighted, SameBag, once_each}
use Rattle.cq_model_bags.proofs.Bags.{same-refl}
use Rattle.cq_model_bags.proofs.Canonicals.{bag_of-weights, length-bag_of}
use Rattle.cq_model_bags.proofs.Totals.{by_test}
use Rattle.cq_model_laws.proofs.Fits.{all-listed}
use Rattle.cq_model.specs.Sizes.{IsStored}
use Rattle.cq_table_columns.specs.Stored.{all_rows}
use Rattle.cq_model.specs.Sources.{same_source}
use Rattle.cq_table_columns.specs.declared.stored_source.StoredSource.{StoredSource}
use Rattle.cq_model.specs.declared.query.Query.{Query}
use Rattle.cq_model.specs.declared.query.Source.{Source}
use Rattle.cq_model.specs.declared.query.Source.TheVariants.{Table, View}
use Rattle.cq_model.specs.Meaning.{Tables}
use Rattle.cq_model.specs.Views.{sources_of}
use Rattle.cq_sides_weights.specs.Held.{sizes}
use Rattle.cq_deltas_joins.specs.Chains.{nothing, spans}
use Rattle.cq_deltas_joins.specs.Steps.{AreStored, span}
use Rattle.cq_model_state.specs.Fitting.{AreFitting, AreLimited, rows_limit}
use Rattle.cq_model_state.specs.State.{TableOf, rows_in}
use Rattle.cq_views.proofs.Taking.{sizes-once_each}
use Rattle.cq_views.specs.Filling.{bags_at, only}
use Rattle.cq_views.specs.Laws.{StandingDependsOnSources}
use Rattle.cq_views.specs.State.{StandsFor}
use Rattle.cq_views.specs.declared.kept_view.KeptView.{KeptView}
use Rattle.cq_views_state.specs.State.{CanStart}
use Rattle.cq_engine_tables.specs.Views.{Fits, bags_in}
use Rattle.cq_engine_tables.proofs.Bags.{bags_few, stored-once_each}
use Rattle.cq_engine_tables.proofs.Crossed.{crossed_few}
use Rattle.cq_engine_tables.proofs.Rows.{rows_have}
use Rattle.cq_engine_tables.proofs.Stored.{tables_stored}
use Rattle.cq_engine_answers.specs.Gathered.{AreRowsThere}
use Rattle.cq_engine_answers.proofs.Readings.{rows_same}
use Rattle.cq_engine.specs.Gathering.{AreGathered, GathersAlso, is_gathered}
use Rattle.cq_model_bags.proofs.Lists.{all-of, all-push}
use Rattle.cq_model.proofs.SameSources.{itself, only_itself}

-- ---- Entries
-- a source that has an entry has one with an entry more
gathered_still : (gathered : List StoredSource) (entry : StoredSource) (s : Source) → is_gathered gathered s ≡ true
    → is_gathered (gathered ++ entry ∷ []) s ≡ true
gathered_still [] entry s there = absurd (cc there)
gathered_still (x ∷ xs) entry s there = by_test (same_source x.source s)
    (λ k. rw k refl)
    (λ k. rw k (gathered_still xs entry s (rw k at there)))

all_still : (gathered : List StoredSource) (entry : StoredSource) (sources : List Source)
    → AllByRecursion (λ s. is_gathered gathered s ≡ true) sources
    → AllByRecursion (λ s. is_gathered (gathered ++ entry ∷ []) s ≡ true) sources
all_still gathered entry [] all = tt
all_still gathered entry (s ∷ sources) all =
    (gathered_still gathered entry s all.0, all_still gathered entry sources all.1)

-- and so has the source of that entry
gathered_now : (gathered : List StoredSource) (entry : StoredSource)
    → is_gathered (gathered ++ entry ∷ []) entry.source ≡ true
gathered_now [] entry = rw (itself entry.source) refl
gathered_now (x ∷ xs) entry = by_test (same_source x.source entry.source)
    (λ k. rw k refl)
    (λ k. rw k (gathered_now xs entry))

-- a source that has an entry beside that of another has one without it
gathered_else : (gathered : List StoredSource) (entry : StoredSource) (s : Source) → same_source entry.source s ≡ false
    → is_gathered (gathered ++ entry ∷ []) s ≡ true → is_gathered gathered s ≡ true
gathered_else [] entry s other there = absurd (cc (rw other at there))
gathered_else (x ∷ xs) entry s other there = by_test (same_source x.source s)
    (λ k. rw k refl)
    (λ k. rw k (gathered_else xs entry s other (rw k at there)))

-- a source that has none has no rows
bag_none : (gathered : List StoredSource) (s : Source) → is_gathered gathered s ≡ false → bags_at gathered s ≡ []
bag_none [] s none = refl
bag_none (x ∷ xs) s none = by_test (same_source x.source s)
    (λ k. absurd (cc (rw k at none)))
    (λ k. rw k (bag_none xs s (rw k at none)))

-- with an entry more, its rows stand behind the others
bag_more : (gathered : List StoredSource) (entry : StoredSource) (s : Source)
    → bags_at (gathered ++ entry ∷ []) s ≡ bags_at gathered s ++ only entry.source (once_each (all_rows entry.rows)) s
bag_more gathered entry s =
    flat_map-append (λ (x : StoredSource). only x.source (once_each (all_rows x.rows)) s) gathered (entry ∷ [])
    ∙ ap (λ (xs : Weighted). bags_at gathered s ++ xs) (append-nil (only entry.source (once_each (all_rows entry.rows)) s))

module _ (tables : List TableOf) where
  -- a source that has an entry needs no other
  pub gathered_before : (source : Source) (gathered : List StoredSource) → is_gathered gathered source ≡ true
      → GathersAlso tables source gathered gathered
  gathered_before source gathered there sources are = record {
    bags = are.bags;
    all = all-push (λ s. is_gathered gathered s ≡ true) sources source are.all there;
  }

  -- a source that has none is given one, with the rows of its table
  module _ (entry : StoredSource) (gathered : List StoredSource) (none : is_gathered gathered entry.source ≡ false) (same : SameBag (once_each (all_rows entry.rows)) (bags_in tables entry.source)) where
    bags_with : ((s : Source) → is_gathered gathered s ≡ true → SameBag (bags_at gathered s) (bags_in tables s)) → (s : Source)
        → is_gathered (gathered ++ entry ∷ []) s ≡ true → SameBag (bags_at (gathered ++ entry ∷ []) s) (bags_in tables s)
    bags_with before s there =
        subst (λ (xs : Weighted). SameBag xs (bags_in tables s)) (sym (bag_more gathered entry s))
        (by_test (same_source entry.source s) (λ k. rw k (here k)) (λ k. rw k (elsewhere k)))
      where
        here : same_source entry.source s ≡ true → SameBag (bags_at gathered s ++ once_each (all_rows entry.rows)) (bags_in tables s)
        here k =
            let is = only_itself entry.source s k in
            let no_rows = bag_none gathered s (subst (λ (t : Source). is_gathered gathered t ≡ false) is none) in
            subst (λ (xs : Weighted). SameBag (xs ++ once_each (all_rows entry.rows)) (bags_in tables s)) (sym no_rows)
            (subst (λ (t : Source). SameBag (once_each (all_rows entry.rows)) (bags_in tables t)) is same)

        elsewhere : same_source entry.source s ≡ false → SameBag (bags_at gathered s ++ []) (bags_in tables s)
        elsewhere k =
            subst (λ (xs : Weighted). SameBag xs (bags_in tables s)) (sym (append-nil (bags_at gathered s)))
            (before s (gathered_else gathered entry s k there))

    pub gathers_also : GathersAlso tables entry.source gathered (gathered ++ entry ∷ [])
    gathers_also sources are = record {
      bags = bags_with are.bags;
      all =
          all-push (λ s. is_gathered (gathered ++ entry ∷ []) s ≡ true) sources entry.source
          (all_still gathered entry sources are.all)
          (gathered_now gathered entry);
    }

  -- the rows that are there are the bag of a source
  pub there_same : (source : Source) (rows : List Row) → AreRowsThere tables source [] rows
      → SameBag (once_each rows) (bags_in tables source)
  there_same (Table n) rows is = rows_same tables [] n rows is
  there_same (View place) rows is = rw is (same-refl [])

-- ---- The rows of each source
-- its entries' rows, one behind the other
abbrev rows_for : List StoredSource → Source → List Row
rows_for gathered s = flat_map (λ x. if same_source x.source s then (all_rows x.rows) else []) gathered

-- each once they are what the source stands for
rows_listed : (gathered : List StoredSource) (s : Source) → bags_at gathered s ≡ once_each (rows_for gathered s)
rows_listed [] s = refl
rows_listed (x ∷ xs) s = by_test (same_source x.source s)
    (λ k. rw k (ap (λ (zs : Weighted). once_each (all_rows x.rows) ++ zs) (rows_listed xs s)
    ∙ sym (map-append (λ (r : Row). (r, pos 1)) (all_rows x.rows) (rows_for xs s))))
    (λ k. rw k (rows_listed xs s))

-- lists with one bag are equally long
same_length : (xs ys : List Row) → SameBag (once_each xs) (once_each ys) → length xs ≡ length ys
same_length xs ys same = sym (length-bag_of xs) ∙ ap length (bag_of-weights xs ys same) ∙ length-bag_of ys

-- rows with the bag of a table are few and stored where its rows are
module _ (tables : List TableOf) where
  few_as : AreLimited rows_limit tables → (rows : List Row) (s : Source) → SameBag (once_each rows) (bags_in tables s)
      → sizes (once_each rows) ≤ rows_limit
  few_as limited rows (Table n) same =
      let here = rows_in tables n in
      omega (arith, sizes-once_each rows, sizes-once_each here, same_length rows here same, bags_few tables limited (Table n))
  few_as limited rows (View place) same = omega (arith, sizes-once_each rows, same_length rows [] same)

  stored_as : AreFitting tables → (rows : List Row) (s : Source) → SameBag (once_each rows) (bags_in tables s)
      → AreStored (once_each rows)
  stored_as fitting rows (Table n) same =
      stored-once_each rows
      (all-listed IsStored (rows_in tables n) rows same
      (rows_have (λ (rs : List Row). AllByRecursion IsStored rs) tt tables n (tables_stored tables fitting)))
  stored_as fitting [] (View place) same = tt
  stored_as fitting (r ∷ rows) (View place) same = absurd (omega (arith, same_length (r ∷ rows) [] same))

-- up to four sources of few rows are few
module _ (tables : Tables) (few : (source : Source) → sizes (tables source) ≤ rows_limit) where
  abbrev wide : List Source → ℕ
  wide sources = spans nothing tables sources

  spans_more : (source : Source) (sources : List Source) (n : ℕ) → wide sources ≤ n
      → wide (source ∷ sources) ≤ 2 ^ 31 * n
  spans_more source sources n h =
      mul-le (span [] (tables source)) (wide sources) (2 ^ 31) n (omega (arith, few source)) h

  spans_one : (a : Source) → wide (a ∷ []) ≤ 2 ^ 31
  spans_one a = omega (arith, spans_more a [] 1 (omega arith))

  spans_two : (a b : Source) → wide (a ∷ b ∷ []) ≤ 2 ^ 62
  spans_two a b = omega (arith, spans_more a (b ∷ []) (2 ^ 31) (spans_one b))

  spans_three : (a b c : Source) → wide (a ∷ b ∷ c ∷ []) ≤ 2 ^ 93
  spans_three a b c = omega (arith, spans_more a (b ∷ c ∷ []) (2 ^ 62) (spans_two b c))

  spans_few : (sources : List Source) → length sources ≤ 4 → wide sources < 2 ^ 127
  spans_few [] h = omega arith
  spans_few (a ∷ []) h = omega (arith, spans_one a)
  spans_few (a ∷ b ∷ []) h = omega (arith, spans_two a b)
  spans_few (a ∷ b ∷ c ∷ []) h = omega (arith, spans_three a b c)
  spans_few (a ∷ b ∷ c ∷ d ∷ []) h = omega (arith, spans_more a (b ∷ c ∷ d ∷ []) (2 ^ 93) (spans_three b c d))
  spans_few (a ∷ b ∷ c ∷ d ∷ e ∷ sources) h = absurd (omega (arith, h))

-- ---- A view of these rows
module _ (tables : List TableOf) (query : Query) (gathered : List StoredSource) (are : AreGathered tables (sources_of query) gathered) where
  -- what holds of no rows, and of all with the bag of a table, holds of those of any source
  have : (P : Weighted → Type 0) → P []
      → ((rows : List Row) (s : Source) → SameBag (once_each rows) (bags_in tables s) → P (once_each rows)) → (s : Source)
      → P (bags_at gathered s)
  have P none each s = by_test (is_gathered gathered s) there (λ k. subst P (sym (bag_none gathered s k)) none)
    where
      there : is_gathered gathered s ≡ true → P (bags_at gathered s)
      there k =
          let listed = rows_listed gathered s in
          subst P (sym listed)
          (each (rows_for gathered s) s (subst (λ (xs : Weighted). SameBag xs (bags_in tables s)) listed (are.bags s k)))

  -- it can be built
  pub can_start : AreFitting tables → AreLimited rows_limit tables → Fits query → CanStart query (bags_at gathered)
  can_start fitting limited fits =
      let few = have (λ xs. sizes xs ≤ rows_limit) (omega arith) (few_as tables limited) in
      record {
        can = fits.can;
        few = spans_few (bags_at gathered) few (sources_of query) fits.few;
        countable = crossed_few (bags_at gathered) few (sources_of query) fits.few;
        stored =
            all-of (λ s. AreStored (bags_at gathered s)) (have AreStored tt (stored_as tables fitting))
            (sources_of query);
      }

  -- the sources that it names have the bags of their tables
  all_same : (sources : List Source) → AllByRecursion (λ s. is_gathered gathered s ≡ true) sources
      → AllByRecursion (λ s. SameBag (bags_at gathered s) (bags_in tables s)) sources
  all_same [] there = tt
  all_same (s ∷ sources) there = (are.bags s there.0, all_same sources there.1)

  -- so it stands for them
  pub stands_for_tables : StandingDependsOnSources → (v : KeptView) → v.query ≡ query
      → StandsFor v (bags_at gathered) → StandsFor v (bags_in tables)
  stands_for_tables law v is stands =
      law v (bags_at gathered) (bags_in tables)
      (subst (λ (q : Query). AllByRecursion (λ s. SameBag (bags_at gathered s) (bags_in tables s)) (sources_of q))
      (sym is) (all_same (sources_of query) are.all)) stands
