-- What a view reads of its query, and which queries are kept.
use Rattle.std.specs.Prelude.{◌≡◌, ◌<◌, ℕ, Bool, false, List, [], ◌++◌, map, None, unwrap_or}
use Rattle.std.specs.List.{AllByRecursion, list_any}
use Rattle.cq_model.specs.Sizes.{IsArgumentNarrow, IsNarrowOnStored, row_size, shown_size, stored_size}
use Rattle.cq_model.specs.Views.{is_table, sources_of}
use Rattle.cq_model.specs.Width.{number_limit, widest}
use Rattle.cq_model.specs.declared.query.Aggregate.{Aggregate}
use Rattle.cq_model.specs.declared.query.Query.{Query}
use Rattle.cq_model.specs.declared.query.Shape.{Shape}
use Rattle.cq_model.specs.declared.query.Shape.TheVariants.{Plain, Grouped}
use Rattle.cq_model.specs.declared.query.Source.{Source}
use Rattle.cq_model.specs.declared.query.Source.TheVariants.{Table, View}

-- the columns behind GROUP BY, and none without
abbrev pub keys_in : Shape → List ℕ
keys_in Plain = []
keys_in (Grouped keys aggregates having) = unwrap_or keys []

abbrev pub key_columns : Query → List ℕ
key_columns q = keys_in q.shape

-- what is shown of each group
abbrev pub aggregates_in : Shape → List Aggregate
aggregates_in Plain = []
aggregates_in (Grouped keys aggregates having) = aggregates

abbrev pub aggregates_of : Query → List Aggregate
aggregates_of q = aggregates_in q.shape

-- whether FROM names the table of a number
abbrev pub reads : ℕ → Query → Bool
reads n q = list_any (is_table n) (sources_of q)

-- FROM names a table here, and no view
abbrev pub IsTable : Source → Type 0
IsTable (Table n) = Unit {0}
IsTable (View n) = ⊥

-- no condition chooses among the groups
abbrev pub HasNoHaving : Shape → Type 0
HasNoHaving Plain = Unit {0}
HasNoHaving (Grouped keys aggregates having) = having ≡ None

-- how large the numbers are in a group's row: in its key, and in what it shows of stored rows
abbrev pub group_sizes : Query → List ℕ
group_sizes q = map (λ k. stored_size) (key_columns q) ++ map shown_size (aggregates_of q)

-- a query of tables alone, without HAVING and DISTINCT, that works out nothing too wide of stored rows
pub record CanBeKept (query : Query) : Type 0 where
  pub tables : AllByRecursion IsTable (sources_of query)
  pub each : query.distinct ≡ false
  pub groups : HasNoHaving query.shape
  pub filter : IsNarrowOnStored query.filter
  pub arguments : AllByRecursion (IsArgumentNarrow (λ i. stored_size)) (aggregates_of query)
  pub items : AllByRecursion (λ e. widest (row_size query.shape) e < number_limit) query.items
