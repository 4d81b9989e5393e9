-- A query with the core of a view means the view's rows.
use Rattle.std.proofs.Common.{◌≡◌, ℕ, Bool, List, [], ◌∷◌, Some, refl, sym, ◌∙◌, ap, ap₂, subst}
use Rattle.std.specs.Prelude.{if◌then◌else◌, map, Option}
use Rattle.std.specs.List.{AllByRecursion}
use Rattle.cq_model_bags.specs.Bag.{Weighted, distinct, filtered, joined, projected}
use Rattle.cq_model.specs.Expr.{Cond}
use Rattle.cq_model.specs.Meaning.{MeaningInRange, ShapeInRange, chain, items_of, joined_rows, keeps, meaning, meets, shaped, shown}
use Rattle.cq_model.specs.Views.{SourceInRange, sources_of, tables_alone, view_bag, with_views}
use Rattle.cq_model.specs.declared.query.Join.{Join}
use Rattle.cq_model.specs.declared.query.Query.{Query}
use Rattle.cq_model.specs.declared.query.Source.{Source}
use Rattle.cq_model.specs.declared.query.Source.TheVariants.{Table, View}
use Rattle.cq_views_model.specs.Query.{CanBeKept, IsTable}
use Rattle.cq_model_core.specs.Core.{HasCoreOf}
use Rattle.cq_model_core.specs.Laws.{AnswersAs, CoreAnswers}

module _ (tables : ℕ → Weighted) (queries : ℕ → Option Query) where
  -- over tables alone a name stands for the same with views and without
  table_bag : (s : Source) → IsTable s → with_views tables queries s ≡ tables_alone tables s
  table_bag (Table n) is = refl
  table_bag (View n) is = absurd is

  -- and no view's totals are asked for
  tables_in_range : (sources : List Source) → AllByRecursion IsTable sources → AllByRecursion (SourceInRange tables queries) sources
  tables_in_range [] all = tt
  tables_in_range (Table n ∷ sources) all = (tt, tables_in_range sources all.1)
  tables_in_range (View n ∷ sources) all = absurd all.0

  -- so the joins of tables are the same
  chain-alone : (xs : Weighted) (js : List Join) → AllByRecursion IsTable (map (λ j. j.source) js) → chain (with_views tables queries) xs js ≡ chain (tables_alone tables) xs js
  chain-alone xs [] all = refl
  chain-alone xs (j ∷ js) all =
      ap (λ ys. chain (with_views tables queries) (joined (meets j.on) xs ys) js) (table_bag j.source all.0)
      ∙ chain-alone (joined (meets j.on) xs (tables_alone tables j.source)) js all.1

  module _ (q view : Query) (core : HasCoreOf q view) (can : CanBeKept view) where
    -- the rows that WHERE keeps are those of the view
    rows_alone : joined_rows q (with_views tables queries) ≡ joined_rows view (tables_alone tables)
    rows_alone =
        ap₂ (λ (c : Option Cond) (xs : Weighted). filtered (keeps c) xs) core.filter
        (ap₂ (λ (s : Source) (js : List Join). chain (with_views tables queries) (with_views tables queries s) js) core.first core.joins
        ∙ ap (λ xs. chain (with_views tables queries) xs view.joins) (table_bag view.first can.tables.0)
        ∙ chain-alone (tables_alone tables view.first) view.joins can.tables.1)

    -- and so is what is shown of them
    shown-alone : shown q (joined_rows q (with_views tables queries)) ≡ shown view (joined_rows view (tables_alone tables))
    shown-alone = λ i. projected (items_of (core.items i)) (shaped (core.shape i) (rows_alone i))

    bag_of_view : view_bag tables (Some view) ≡ shown view (joined_rows view (tables_alone tables))
    bag_of_view = ap (λ (b : Bool). if b then distinct (shown view (joined_rows view (tables_alone tables))) else shown view (joined_rows view (tables_alone tables))) can.each

    means : meaning q (with_views tables queries) ≡ (if q.distinct then distinct (view_bag tables (Some view)) else view_bag tables (Some view))
    means = ap (λ (xs : Weighted). if q.distinct then distinct xs else xs) (shown-alone ∙ sym bag_of_view)

    -- the same totals are asked for
    own_range : MeaningInRange q (with_views tables queries) ≡ MeaningInRange view (tables_alone tables)
    own_range = ap₂ ShapeInRange core.shape rows_alone

    named_none : AllByRecursion (SourceInRange tables queries) (sources_of q)
    named_none = tables_in_range (sources_of q) (subst (λ (sources : List Source). AllByRecursion IsTable sources) (sym same_sources) can.tables)
      where
        same_sources : sources_of q ≡ sources_of view
        same_sources = λ i. core.first i ∷ map (λ j. j.source) (core.joins i)

    answers_as : AnswersAs tables queries q view
    answers_as = record {
      bag = means;
      range = (λ all. subst (λ (T : Type 0). T) own_range all.own, λ own. record { own = subst (λ (T : Type 0). T) (sym own_range) own; named = named_none });
    }

pub core-answers : CoreAnswers
core-answers tables queries q view core can = answers_as tables queries q view core can
