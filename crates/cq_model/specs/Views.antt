-- What a view's name in FROM stands for.
use Rattle.std.specs.Prelude.{ℕ, ◌==◌, Bool, false, List, [], ◌∷◌, map, Option, Some, None}
use Rattle.std.specs.List.{AllByRecursion}
use Rattle.cq_model_bags.specs.Bag.{Weighted}
use Rattle.cq_model.specs.declared.query.Query.{Query}
use Rattle.cq_model.specs.declared.query.Source.{Source}
use Rattle.cq_model.specs.declared.query.Source.TheVariants.{Table, View}
use Rattle.cq_model.specs.Meaning.{Tables, meaning, MeaningInRange}

-- the bags of the tables alone, by their numbers: a view's query names no view
abbrev pub tables_alone : (ℕ → Weighted) → Tables
tables_alone tables (Table t) = tables t
tables_alone tables (View v) = []

-- the bag of a view's query, and no row where there is no such view
abbrev pub view_bag : (ℕ → Weighted) → Option Query → Weighted
view_bag tables None = []
view_bag tables (Some q) = meaning q (tables_alone tables)

-- a table's name stands for its bag, and a view's for its query's bag
abbrev pub with_views : (ℕ → Weighted) → (ℕ → Option Query) → Tables
with_views tables queries (Table t) = tables t
with_views tables queries (View v) = view_bag tables (queries v)

-- the totals of a view can be shown
abbrev pub ViewInRange : (ℕ → Weighted) → Option Query → Type 0
ViewInRange tables None = Unit {0}
ViewInRange tables (Some q) = MeaningInRange q (tables_alone tables)

-- the totals of a view that is named can be shown
abbrev pub SourceInRange : (ℕ → Weighted) → (ℕ → Option Query) → Source → Type 0
SourceInRange tables queries (Table t) = Unit {0}
SourceInRange tables queries (View v) = ViewInRange tables (queries v)

-- the sources that a query names, in their order
abbrev pub sources_of : Query → List Source
sources_of q = q.first ∷ map (λ j. j.source) q.joins

-- whether a source is the table of a number
abbrev pub is_table : ℕ → Source → Bool
is_table n (Table t) = t == n
is_table n (View v) = false

-- whether a source is the view at a place
abbrev pub is_view : ℕ → Source → Bool
is_view place (Table t) = false
is_view place (View v) = v == place

-- the totals of a query and of each view that FROM names can be shown
pub record AnswerInRange (tables : ℕ → Weighted) (queries : ℕ → Option Query) (q : Query) : Type 0 where
  pub own : MeaningInRange q (with_views tables queries)
  pub named : AllByRecursion (SourceInRange tables queries) (sources_of q)
