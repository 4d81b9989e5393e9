-- How large texts can be, and the numbers in the columns of tables and of queries (docs/LANGUAGE.md, Width).
use Rattle.std.specs.Prelude.{ℕ, ◌<◌, ◌≤◌, ◌^◌, List, ◌++◌, map, slice_index_or, unwrap_or, [], Option}
use Rattle.cq_model.specs.Expr.{Cond}
use Rattle.cq_model.specs.declared.query.Aggregate.{Aggregate}
use Rattle.cq_model.specs.declared.query.Aggregate.TheVariants.{CountAll, Count, CountDistinct, Sum, Min, Max}
use Rattle.cq_model.specs.declared.query.Query.{Query}
use Rattle.cq_model.specs.declared.query.Shape.{Shape}
use Rattle.cq_model.specs.declared.query.Shape.TheVariants.{Plain, Grouped}
use Rattle.cq_values.specs.declared.column.ColumnDef.{ColumnDef}
use Rattle.cq_values.specs.Value.{Row, column}
use Rattle.cq_model.specs.Width.{IsNarrowIn, number_limit, value_size, widest, width}

-- a stored number has 64 bits with a sign
abbrev pub stored_size : ℕ
stored_size = 2 ^ 63

-- the number in each column of a row is within a size
abbrev pub IsSized : (ℕ → ℕ) → Row → Type 0
IsSized sizes row = (i : ℕ) → value_size (column row i) ≤ sizes i

-- no number of a row is larger than a stored one can be
abbrev pub IsStored : Row → Type 0
IsStored row = IsSized (λ i. stored_size) row

-- no number is too wide where the condition is worked out in a stored row
abbrev pub IsNarrowOnStored : Option Cond → Type 0
IsNarrowOnStored condition = (row : Row) → IsStored row → IsNarrowIn condition row

-- a text that is stored or written has at most so many bytes
abbrev pub text_limit : ℕ
text_limit = 4096

-- a count is at most so large, as more rows than this have no place in memory
abbrev pub count_size : ℕ
count_size = 2 ^ 120

-- the columns of a table
abbrev pub stored_sizes : List ColumnDef → List ℕ
stored_sizes columns = map (λ c. stored_size) columns

-- how large a number can be that a group shows of rows whose columns have these sizes: a count, a total, or a value
abbrev pub aggregate_size : (ℕ → ℕ) → Aggregate → ℕ
aggregate_size sizes CountAll = count_size
aggregate_size sizes (Count e) = count_size
aggregate_size sizes (CountDistinct e) = count_size
aggregate_size sizes (Sum e) = number_limit
aggregate_size sizes (Min e) = (width e sizes).size
aggregate_size sizes (Max e) = (width e sizes).size

-- the argument of an aggregate, where it has one, works out nothing too wide over columns of these sizes
abbrev pub IsArgumentNarrow : (ℕ → ℕ) → Aggregate → Type 0
IsArgumentNarrow sizes CountAll = Unit {0}
IsArgumentNarrow sizes (Count e) = widest sizes e < number_limit
IsArgumentNarrow sizes (CountDistinct e) = widest sizes e < number_limit
IsArgumentNarrow sizes (Sum e) = widest sizes e < number_limit
IsArgumentNarrow sizes (Min e) = widest sizes e < number_limit
IsArgumentNarrow sizes (Max e) = widest sizes e < number_limit

-- what a group shows of stored rows
abbrev pub shown_size : Aggregate → ℕ
shown_size a = aggregate_size (λ i. stored_size) a

-- the columns that items read: those of tables, or a group's keys and what it shows of its rows
abbrev pub row_size : Shape → ℕ → ℕ
row_size Plain i = stored_size
row_size (Grouped keys aggregates having) i = slice_index_or (map (λ k. stored_size) (unwrap_or keys []) ++ map shown_size aggregates) i 0

-- the columns of a query on tables
abbrev pub column_sizes : Query → List ℕ
column_sizes q = map (λ e. (width e (row_size q.shape)).size) q.items
