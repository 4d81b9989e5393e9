-- What FROM joins is there, with the sizes of its columns.
use Rattle.std.proofs.Common.{◌≡◌, ◌+◌, ◌≤◌, ℕ, List, [], ◌∷◌, ◌++◌, map, length, Option, Some, None, Result, Ok, Err, refl, sym, ap, ◌∙◌, arith, subst}
use Rattle.std.specs.Prelude.{nat_lt}
use Rattle.std.proofs.lemmas.Bool.{ltb-false}
use Rattle.std.specs.List.{AllByRecursion, flat_map, zip}
use Rattle.std.proofs.lemmas.List.{append-nil, append_assoc, length-append, map-append}
use Rattle.std.proofs.lemmas.Simd.{map-map}
use Rattle.std.proofs.lemmas.Slice.Zip.{seconds-zip}
use Rattle.cq_model_bags.proofs.Totals.{by_test}
use Rattle.cq_sql_language.specs.declared.statement.FromSource.{FromSource}
use Rattle.cq_sql_language.specs.declared.statement.JoinedSource.{JoinedSource}
use Rattle.cq_sql_language.specs.declared.statement.Select.{Select}
use Rattle.cq_model.specs.declared.query.Join.{Join}
use Rattle.cq_model.specs.declared.query.Source.{Source}
use Rattle.cq_model.specs.declared.query.Source.TheVariants.{Table, View}
use Rattle.cq_binder_rules.specs.declared.fault.Fault.{Fault}
use Rattle.cq_binder_rules.specs.declared.fault.Fault.TheVariants.{ClauseInView, NameTaken, TooManyTables}
use Rattle.cq_binder_rules.specs.Bound.{standing}
use Rattle.cq_binder_rules.specs.Checks.{fault_if, first_fault}
use Rattle.cq_binder_rules.specs.From.{From, columns_with, equality_check, first_from, first_walk, is_any_view, join_checks, join_walk, joined_with, joins_walk, no_view, passing, sources_walk, view_walk}
use Rattle.cq_binder_rules.specs.Scopes.{Named, known_as, scope_column, source_columns, source_named}
use Rattle.cq_binder_rules.specs.Typing.{ScopeColumn, is_known}
use Rattle.cq_model_state.specs.State.{State, TableOf, ViewOf}
use Rattle.cq_engine_answers.specs.Reading.{IsSourceThere}
use Rattle.cq_engine_answers.specs.Narrow.{source_sizes}
use Rattle.cq_views_model.specs.Query.{IsTable}
use Rattle.cq_engine_writes.proofs.Checks.{back_free, first_free}
use Rattle.cq_engine.proofs.Fitting.{second_free}
use Rattle.cq_model_bags.proofs.Lists.{all-push}
use Rattle.cq_binder_expressions.proofs.Told.{stood}

-- what stood was given
pub standing_ok : (r : Result From Fault) (from : From) → standing r ≡ Some from → r ≡ Ok from
standing_ok (Ok x) from e = let same : x ≡ from = cc in ap (λ (f : From). Ok f) same
standing_ok (Err f) from e = absurd (cc e)

-- what passes is what was to stand
passing_ok : (o : Option Fault) (x y : From) → passing o x ≡ Ok y → x ≡ y
passing_ok None x y e = cc
passing_ok (Some f) x y e = absurd (cc e)

-- the sizes of a source's columns are those that it promises
columns_sized : (known : List ℕ) (source : Named) → length source.columns ≡ length source.sizes → map (λ c. c.size) (source_columns known source) ≡ source.sizes
columns_sized known source even =
    map-map (λ c. c.size) (scope_column known) (zip source.columns source.sizes) ∙ seconds-zip source.columns source.sizes (sym even)

flat_one_more : {X Y : Type 0} (f : X → List Y) (xs : List X) (x : X) → flat_map f (xs ++ x ∷ []) ≡ flat_map f xs ++ f x
flat_one_more f [] x = append-nil (f x)
flat_one_more f (y ∷ ys) x = ap (λ zs. f y ++ zs) (flat_one_more f ys x) ∙ sym (append_assoc (f y) (flat_map f ys) (f x))

-- the sources of what was joined
abbrev pub sources_joined : From → List Source
sources_joined from = from.first ∷ map (λ j. j.source) from.joins

sources_more : (from : From) (j : JoinedSource) (source : Named) → sources_joined (joined_with from j source) ≡ sources_joined from ++ source.source ∷ []
sources_more from j source = ap (λ (ss : List Source). from.first ∷ ss) (map-append (λ (k : Join). k.source) from.joins _)

module _ (tables : List TableOf) (views : List ViewOf) where
  -- a source that FROM names is there, with a size for each of its columns
  pub record IsFound (source : Named) : Type 0 where
    pub there : IsSourceThere tables views source.source
    pub sizes : source_sizes tables views source.source ≡ source.sizes
    pub even : length source.columns ≡ length source.sizes

  -- what was joined is there, with the sizes of all columns
  pub record AreJoined (from : From) : Type 0 where
    pub there : AllByRecursion (IsSourceThere tables views) (sources_joined from)
    pub sizes : map (λ c. c.size) from.columns ≡ flat_map (source_sizes tables views) (sources_joined from)

  -- one source is
  pub one_joined : (q : Select) (source : Named) → IsFound source → AreJoined (first_from q.first source)
  one_joined q source is = record {
    there = (is.there, tt);
    sizes =
        columns_sized (known_as q.first source) source is.even ∙ sym is.sizes
        ∙ sym (append-nil (source_sizes tables views source.source));
  }

  module _ (s : State) (found : (name : List ℕ) (source : Named) → source_named name s ≡ Some source → IsFound source) (may : Named → Option Fault) where
    one_more : (from : From) (j : JoinedSource) (source : Named) → AreJoined from → IsFound source → AreJoined (joined_with from j source)
    one_more from j source are is = record {
      there = subst (AllByRecursion (IsSourceThere tables views)) (sym (sources_more from j source)) (all-push (IsSourceThere tables views) (sources_joined from) source.source are.there is.there);
      sizes =
          map-append (λ (c : ScopeColumn). c.size) from.columns (source_columns (known_as j.source source) source)
          ∙ (λ i. are.sizes i ++ (columns_sized (known_as j.source source) source is.even ∙ sym is.sizes) i)
          ∙ sym (ap (flat_map (source_sizes tables views)) (sources_more from j source) ∙ flat_one_more (source_sizes tables views) (sources_joined from) source.source);
    }

    join_joined : (from wide : From) (j : JoinedSource) (o : Option Named) → source_named j.source.name s ≡ o → join_walk may from j o ≡ Ok wide → AreJoined from → AreJoined wide
    join_joined from wide j None named e are = absurd (cc e)
    join_joined from wide j (Some source) named e are =
        subst AreJoined (passing_ok (first_fault (join_checks may from j source)) (joined_with from j source) wide e) (one_more from j source are (found j.source.name source named))

    all_joined : (js : List JoinedSource) (from whole : From) → joins_walk may s from js ≡ Ok whole → AreJoined from → AreJoined whole
    all_joined [] from whole e are = let same : from ≡ whole = cc in subst AreJoined same are
    all_joined (j ∷ js) from whole e are =
        let p = stood (join_walk may from j (source_named j.source.name s)) (λ wide. joins_walk may s wide js) whole e in
        all_joined js p.0 whole p.2 (join_joined from p.0 j (source_named j.source.name s) refl p.1 are)

    first_joined : (q : Select) (from : From) (o : Option Named) → source_named q.first.name s ≡ o → first_walk may q.first o ≡ Ok from → AreJoined from
    first_joined q from None named e = absurd (cc e)
    first_joined q from (Some source) named e =
        subst AreJoined (passing_ok (may source) (first_from q.first source) from e) (one_joined q source (found q.first.name source named))

    -- what FROM was walked through to
    pub are_joined : (q : Select) (from : From) → sources_walk may s q ≡ Ok from → AreJoined from
    are_joined q from e =
        let p = stood (first_walk may q.first (source_named q.first.name s)) (λ (f : From). joins_walk may s f q.joins) from e in
        all_joined q.joins p.0 from p.2 (first_joined q p.0 (source_named q.first.name s) refl p.1)

-- ---- What a view reads
-- what passes has no fault
passing_free : (o : Option Fault) (x y : From) → passing o x ≡ Ok y → o ≡ None
passing_free None x y e = refl
passing_free (Some f) x y e = absurd (cc e)

-- not so many base tables are too many
few_bases : (n : ℕ) → fault_if (nat_lt 4 n) TooManyTables ≡ None → n ≤ 4
few_bases n e = by_test (nat_lt 4 n)
    (λ k. absurd (cc (rw k at e)))
    (λ k. ltb-false 4 n k)

-- a source that is no view is a table
table_alone : (source : Source) → fault_if (is_any_view source) ClauseInView ≡ None → IsTable source
table_alone (Table n) e = tt
table_alone (View place) e = absurd (cc e)

-- a table counts once
pub record IsOneTable (source : Named) : Type 0 where
  pub table : IsTable source.source
  pub base : source.bases ≡ 1

-- at most four tables were joined, and no view
pub record AreTables (from : From) : Type 0 where
  pub tables : AllByRecursion IsTable (sources_joined from)
  pub counted : length (sources_joined from) ≡ from.bases
  pub few : from.bases ≤ 4

module _ (s : State) (one : (name : List ℕ) (source : Named) → source_named name s ≡ Some source → IsTable source.source → IsOneTable source) where
  first_table : (f : FromSource) (source : Named) → IsOneTable source → AreTables (first_from f source)
  first_table f source is = record { tables = (is.table, tt); counted = sym is.base; few = omega (arith, is.base) }

  table_more : (from : From) (j : JoinedSource) (source : Named) → AreTables from → IsOneTable source → from.bases + source.bases ≤ 4 → AreTables (joined_with from j source)
  table_more from j source are is few = record {
    tables = subst (AllByRecursion IsTable) (sym (sources_more from j source)) (all-push IsTable (sources_joined from) source.source are.tables is.table);
    counted = omega (arith, ap length (sources_more from j source), length-append (sources_joined from) (source.source ∷ []), are.counted, is.base);
    few = few;
  }

  join_tables : (from wide : From) (j : JoinedSource) (o : Option Named) → source_named j.source.name s ≡ o → join_walk no_view from j o ≡ Ok wide → AreTables from → AreTables wide
  join_tables from wide j None named e are = absurd (cc e)
  join_tables from wide j (Some source) named e are =
      let checks = join_checks no_view from j source in
      let free : first_fault checks ≡ None = passing_free (first_fault checks) (joined_with from j source) wide e in
      let known = fault_if (is_known from.columns (known_as j.source source)) NameTaken in
      let many = fault_if (nat_lt 4 (from.bases + source.bases)) TooManyTables in
      let equalities = map (equality_check (columns_with from.columns j.source source) (length from.columns)) j.on in
      let behind : first_fault (many ∷ no_view source ∷ equalities) ≡ None = back_free (known ∷ []) (many ∷ no_view source ∷ equalities) free in
      let few = few_bases (from.bases + source.bases) (first_free many (no_view source ∷ equalities) behind) in
      let table = table_alone source.source (second_free many (no_view source) equalities behind) in
      subst AreTables (passing_ok (first_fault checks) (joined_with from j source) wide e) (table_more from j source are (one j.source.name source named table) few)

  all_tables : (js : List JoinedSource) (from whole : From) → joins_walk no_view s from js ≡ Ok whole → AreTables from → AreTables whole
  all_tables [] from whole e are = let same : from ≡ whole = cc in subst AreTables same are
  all_tables (j ∷ js) from whole e are =
      let p = stood (join_walk no_view from j (source_named j.source.name s)) (λ wide. joins_walk no_view s wide js) whole e in
      all_tables js p.0 whole p.2 (join_tables from p.0 j (source_named j.source.name s) refl p.1 are)

  first_tables : (q : Select) (from : From) (o : Option Named) → source_named q.first.name s ≡ o → first_walk no_view q.first o ≡ Ok from → AreTables from
  first_tables q from None named e = absurd (cc e)
  first_tables q from (Some source) named e =
      let table = table_alone source.source (passing_free (no_view source) (first_from q.first source) from e) in
      subst AreTables (passing_ok (no_view source) (first_from q.first source) from e) (first_table q.first source (one q.first.name source named table))

  -- what the FROM of a view was walked through to
  pub are_tables : (v : Select) (from : From) → view_walk s v ≡ Ok from → AreTables from
  are_tables v from e =
      let p = stood (first_walk no_view v.first (source_named v.first.name s)) (λ (f : From). joins_walk no_view s f v.joins) from e in
      all_tables v.joins p.0 from p.2 (first_tables v p.0 (source_named v.first.name s) refl p.1)
