-- SELECT on lent rows of several sources: they are the bags that names in FROM stand for, and nothing on them is too wide.
use Rattle.std.proofs.Common.{◌≡◌, ℕ, List, [], ◌∷◌, Option, Some, sym, ◌∙◌, inl, inr, subst, Result, Ok, Err}
use Rattle.std.specs.Prelude.{slice_get}
use Rattle.std.specs.List.{AllByRecursion}
use Rattle.cq_values.specs.Value.{Row}
use Rattle.cq_model_bags.specs.Bag.{SameBag, once_each}
use Rattle.cq_model_bags.specs.Canonical.{bag_of}
use Rattle.cq_model_bags.proofs.Bags.{same-trans}
use Rattle.cq_binder_rules.specs.declared.fault.Fault.{Fault}
use Rattle.cq_model_laws.specs.Laws.{MeaningDependsOnSources, MeansSame}
use Rattle.cq_model_laws.specs.Sizes.{HasSizes}
use Rattle.cq_model.specs.declared.query.Order.{Order}
use Rattle.cq_model.specs.declared.query.Query.{Query}
use Rattle.cq_model.specs.declared.query.Source.{Source}
use Rattle.cq_model.specs.declared.query.Source.TheVariants.{Table, View}
use Rattle.cq_model.specs.Meaning.{meaning}
use Rattle.cq_model.specs.Views.{SourceInRange, ViewInRange, sources_of, view_bag}
use Rattle.cq_table_columns.specs.Stored.{all_rows}
use Rattle.cq_table_columns.specs.declared.stored_source.StoredSource.{StoredSource}
use Rattle.cq_table_columns.specs.Sources.{stored_bags, rows_or}
use Rattle.cq_model_state.specs.Fitting.{AreFitting}
use Rattle.cq_model_state.specs.State.{State, TableOf, queries_of, rows_in, tables_now}
use Rattle.cq_binder_queries.specs.Catalog.{alone}
use Rattle.cq_views.specs.Shown.{AreRowsOf, IsShown}
use Rattle.cq_engine_answers.specs.declared.gathered.Gathered.{Gathered}
use Rattle.cq_engine_answers.specs.Lent.{CanAnswer}
use Rattle.cq_engine_answers.specs.Reading.{AreReadable, CanRead, IsReadable}
use Rattle.cq_engine_answers.specs.Gathered.{AreGathered, AreLent, AreRowsThere, AreShownBy, HaveColumnsOf, IsGatherFault, IsGathered, IsHidden, IsLent}
use Rattle.cq_engine_answers.specs.Narrow.{source_sizes, source_widths}
use Rattle.cq_engine_answers.specs.Selects.{Selects, SelectsLent, sources_in}
use Rattle.cq_engine_tables.specs.Views.{IsPresent, NamedView, views_of}
use Rattle.cq_engine_answers.proofs.Lents.{AreFor, sources-have}
use Rattle.cq_engine_tables.proofs.Pairs.{pointwise_all}
use Rattle.cq_engine_answers.proofs.Readings.{bases, query_there, rows_same, sizes_there, stored_sized, suits_for}
use Rattle.cq_model_bags.proofs.Lists.{all-at}

-- what was gathered is of sources that are there
pub gathered_there : (P : Source → Type 0) (views : List NamedView) (sources : List Source) (gs : List Gathered) → AreGathered views sources gs → AllByRecursion P sources → AllByRecursion (λ g. P g.source) gs
gathered_there P views sources gs gathered all =
    pointwise_all (IsGathered views) P (λ g. P g.source) (λ s g is p. subst P (sym is.same) p) sources gs gathered all

-- ---- The rows of a source
module _ (tables : List TableOf) (views : List NamedView) where
  abbrev here : State
  here = alone tables (views_of views)

  -- rows are the bag that a name in FROM stands for, and have the sizes of its columns
  pub record AreOf (source : Source) (rows : List Row) : Type 0 where
    pub same : SameBag (once_each rows) (sources_in tables (views_of views) source)
    pub sized : AllByRecursion (HasSizes (source_sizes tables (views_of views) source)) rows
    pub range : SourceInRange (tables_now here) (queries_of here) source

  module _ (fitting : AreFitting tables) where
    -- a view that cannot be shown
    hidden_out : (s : Source) → IsReadable tables views s → IsHidden views s → SourceInRange (tables_now here) (queries_of here) s → ⊥
    hidden_out (Table n) readable hidden range = hidden
    hidden_out (View place) readable hidden range =
        hidden.2 (bases tables views) (suits_for tables views hidden.0 fitting (readable hidden.0 hidden.1))
        (subst (λ (o : Option Query). ViewInRange (tables_now here) o) (query_there tables views place hidden.0 hidden.1) range)

    -- refuses SELECT wherever FROM names it
    pub gather_refused : (q : Query) → AreReadable tables views q → (order : Order) (f : Fault) → IsGatherFault views (sources_of q) f → Selects tables (views_of views) q order (Err f)
    gather_refused q all order f (inl m) = inl m
    gather_refused q all order f (inr w) = inr (
      w.0,
      λ range.
          let named = all-at (SourceInRange (tables_now here) (queries_of here)) (sources_of q) w.1.0 w.1.1 w.1.2 range.named in
          let readable = all-at (IsReadable tables views) (sources_of q) w.1.0 w.1.1 w.1.2 all in
          hidden_out w.1.1 (subst (IsReadable tables views) w.1.3 readable) w.1.4 (subst (SourceInRange (tables_now here) (queries_of here)) w.1.3 named),
    )

    -- ---- The rows that are read
    -- of a table
    stored_are : (n : ℕ) (rows : List Row) → bag_of rows ≡ rows_in tables n → AreOf (Table n) rows
    stored_are n rows is = record {
      same = rows_same tables views n rows is;
      sized = stored_sized tables views n rows fitting is;
      range = tt;
    }

    -- of a view
    shown_are : (place : ℕ) (v : NamedView) (rows : List Row) → IsPresent tables v → slice_get views place ≡ Some v → AreRowsOf v.kept rows
        → HaveColumnsOf v.kept rows → IsShown v.kept → AreOf (View place) rows
    shown_are place v rows present at bag sized range =
        let there = query_there tables views place v at in
        let suit = suits_for tables views v fitting present in
        record {
          same =
              subst (λ (o : Option Query). SameBag (once_each rows) (view_bag (tables_now here) o)) (sym there)
              (bag (bases tables views) suit);
          sized =
              subst (λ ns. AllByRecursion (HasSizes ns) rows) (sym (sizes_there tables views place v at))
              sized;
          range =
              subst (λ (o : Option Query). ViewInRange (tables_now here) o) (sym there)
              (range (bases tables views) suit);
        }

    -- of what was gathered and lent
    lent_are : (s : Source) (shown rows : List Row) → IsReadable tables views s → AreShownBy views s shown → AreRowsThere tables s shown rows → AreOf s rows
    lent_are (Table n) shown rows readable by there = stored_are n rows there
    lent_are (View place) shown rows readable by there =
        subst (AreOf (View place)) (sym there) (shown_are place by.0 shown (readable by.0 by.1) by.1 by.2 by.3 by.4)

    entry_is : (s : Source) (g : Gathered) (l : StoredSource) → IsReadable tables views s → IsGathered views s g → IsLent tables g l → AreOf l.source (all_rows l.rows)
    entry_is s g l readable gathered lent =
        let there = subst (λ (t : Source). AreRowsThere tables t g.shown (all_rows l.rows)) gathered.same lent.rows in
        subst (λ (t : Source). AreOf t (all_rows l.rows)) (sym (lent.source ∙ gathered.same)) (lent_are s g.shown (all_rows l.rows) readable gathered.shown there)

    entries_are : (sources : List Source) (gs : List Gathered) (lents : List StoredSource) → AllByRecursion (IsReadable tables views) sources → AreGathered views sources gs → AreLent tables gs lents → AreFor sources lents × AllByRecursion (λ l. AreOf l.source (all_rows l.rows)) lents
    entries_are [] [] [] all g l = (tt, tt)
    entries_are [] [] (x ∷ lents) all g l = absurd l
    entries_are [] (x ∷ gs) lents all g l = absurd g
    entries_are (s ∷ sources) [] lents all g l = absurd g
    entries_are (s ∷ sources) (x ∷ gs) [] all g l = absurd l
    entries_are (s ∷ sources) (x ∷ gs) (y ∷ lents) all g l =
        let rest = entries_are sources gs lents all.1 g.1 l.1 in
        ((l.0.source ∙ g.0.same, rest.0), (entry_is s x y all.0 g.0 l.0, rest.1))

    -- ---- The query on them
    module _ (q : Query) (readable : AreReadable tables views q) (can : CanRead tables (views_of views) q) where
      abbrev Sizes : Source → List ℕ
      Sizes = source_sizes tables (views_of views)

      module _ (gs : List Gathered) (lents : List StoredSource) (gathered : AreGathered views (sources_of q) gs) (lent : AreLent tables gs lents) where
        -- what all entries have, the sources have
        have : (P : Source → List Row → Type 0) → ((s : Source) (rows : List Row) → AreOf s rows → P s rows) → AllByRecursion (λ s. P s (rows_or lents s [])) (sources_of q)
        have P each =
            let entries = entries_are (sources_of q) gs lents readable gathered lent in
            sources-have P (sources_of q) lents entries.0 (all_each lents entries.1)
          where
            all_each : (ls : List StoredSource) → AllByRecursion (λ l. AreOf l.source (all_rows l.rows)) ls → AllByRecursion (λ l. P l.source (all_rows l.rows)) ls
            all_each [] all = tt
            all_each (l ∷ ls) all = (each l.source (all_rows l.rows) all.0, all_each ls all.1)

        -- the query means the same on them
        means_same : MeaningDependsOnSources → MeansSame q (stored_bags lents) (sources_in tables (views_of views))
        means_same law_of_sources =
            law_of_sources q (stored_bags lents) (sources_in tables (views_of views)) (have (λ s rows. SameBag (once_each rows) (sources_in tables (views_of views) s)) (λ s rows are. are.same))

        -- it can be worked out on them
        pub can_answer : (widths : List ℕ) → widths ≡ source_widths tables (views_of views) (sources_of q) → CanAnswer lents q widths
        can_answer widths wide = record {
          sizes = Sizes;
          wide = wide;
          rows = have (λ s rows. AllByRecursion (HasSizes (Sizes s)) rows) (λ s rows are. are.sized);
          filter = can.filter;
          shown = can.shown;
        }

        -- its listing there is that of SELECT
        pub selects_joined : (order : Order) → MeaningDependsOnSources → (result : Result (List Row) Fault) → SelectsLent q order lents result → Selects tables (views_of views) q order result
        selects_joined order law_of_sources (Ok list) w =
            let means = means_same law_of_sources in
            let l = w.0.1 in (
              (w.0.0, record { same = same-trans (once_each w.0.0) (meaning q (stored_bags lents)) (meaning q (sources_in tables (views_of views))) l.same means.bag; in_order = l.in_order }, w.0.2),
              record { own = means.range.0 w.1; named = have (λ s rows. SourceInRange (tables_now here) (queries_of here) s) (λ s rows are. are.range) },
            )
        selects_joined order law_of_sources (Err f) (inl m) = inl m
        selects_joined order law_of_sources (Err f) (inr w) = inr (w.0, λ range. w.1 ((means_same law_of_sources).range.1 range.own))
