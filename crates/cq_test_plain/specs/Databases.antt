-- What names in FROM stand for in a database, and what of it can be shown.
use Rattle.std.specs.Prelude.{◌≡◌, List}
use Rattle.std.specs.List.{AllByRecursion}
use Rattle.cq_values.specs.Value.{Row}
use Rattle.cq_model_bags.specs.Bag.{Weighted}
use Rattle.cq_model.specs.declared.query.Query.{Query}
use Rattle.cq_model.specs.Meaning.{Tables, meaning}
use Rattle.cq_model.specs.Views.{AnswerInRange, SourceInRange, sources_of, with_views}
use Rattle.cq_test_plain.specs.declared.database.Database.{Database}
use Rattle.cq_test_plain.specs.Stored.{query_at, rows_at, stored_bags}

-- a table's name stands for its rows, and a view's for its query's bag
abbrev pub bags_of : Database → Tables
bags_of database = with_views (rows_at database.tables) (query_at database.views)

-- the bag that answers a query
abbrev pub answer_bag : Database → Query → Weighted
answer_bag database q = meaning q (bags_of database)

-- these rows of views are those of each view that a query names
abbrev pub HoldsSources : Database → Query → List (List Row) → Type 0
HoldsSources database q views = AllByRecursion (λ source. stored_bags database.tables views source ≡ bags_of database source) (sources_of q)

-- the totals of each view that a query names can be shown
abbrev pub SourcesInRange : Database → Query → Type 0
SourcesInRange database q = AllByRecursion (SourceInRange (rows_at database.tables) (query_at database.views)) (sources_of q)

-- and those of the query itself too
abbrev pub IsInRange : Database → Query → Type 0
IsInRange database q = AnswerInRange (rows_at database.tables) (query_at database.views) q
