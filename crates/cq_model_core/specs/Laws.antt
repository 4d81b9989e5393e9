-- What holds of queries with one core. Each statement is the contract of a function in laws.rt.
use Rattle.std.specs.Prelude.{◌≡◌, ◌↔◌, ℕ, if◌then◌else◌, true, Option, Some}
use Rattle.cq_model_bags.specs.Bag.{Weighted, distinct}
use Rattle.cq_model.specs.Meaning.{meaning}
use Rattle.cq_model.specs.Views.{AnswerInRange, ViewInRange, view_bag, with_views}
use Rattle.cq_model.specs.declared.query.Query.{Query}
use Rattle.cq_views_model.specs.Query.{CanBeKept}
use Rattle.cq_model_core.specs.Core.{HasCoreOf, has_core}

-- the test tells exactly the queries that have the core
abbrev pub CoreIsTold : Type 0
CoreIsTold = (q other : Query) → (has_core q other ≡ true) ↔ HasCoreOf q other

-- what a query means, with a view's query that it has the core of
pub record AnswersAs (tables : ℕ → Weighted) (queries : ℕ → Option Query) (q view : Query) : Type 0 where
  pub bag : meaning q (with_views tables queries) ≡ (if q.distinct then distinct (view_bag tables (Some view)) else view_bag tables (Some view))
  pub range : AnswerInRange tables queries q ↔ ViewInRange tables (Some view)

-- a query with the core of a view means the view's rows, with a DISTINCT of its own, and the same totals can be shown
abbrev pub CoreAnswers : Type 0
CoreAnswers =
    (tables : ℕ → Weighted) (queries : ℕ → Option Query) (q view : Query) → HasCoreOf q view → CanBeKept view → AnswersAs tables queries q view
