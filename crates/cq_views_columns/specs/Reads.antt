-- Which columns a query reads of its sources.
use Rattle.std.specs.Prelude.{ℕ, ◌+◌, ◌==◌, Bool, false, ◌&&◌, ◌||◌, List, [], ◌∷◌, Option, Some, None, nat_lt, unwrap_or}
use Rattle.std.specs.List.{list_any}
use Rattle.cq_model.specs.Sources.{same_source}
use Rattle.cq_model.specs.Expr.{Cond, Expr}
use Rattle.cq_model.specs.Views.{sources_of}
use Rattle.cq_model.specs.declared.query.Aggregate.{Aggregate}
use Rattle.cq_model.specs.declared.query.Aggregate.TheVariants.{CountAll, Count, CountDistinct, Sum, Min, Max}
use Rattle.cq_model.specs.declared.query.Join.{Join}
use Rattle.cq_model.specs.declared.query.Query.{Query}
use Rattle.cq_model.specs.declared.query.Shape.{Shape}
use Rattle.cq_model.specs.declared.query.Shape.TheVariants.{Plain, Grouped}
use Rattle.cq_model.specs.declared.query.Source.{Source}
use Rattle.cq_model_terms.specs.Places.{is_one_of}
use Rattle.cq_model_terms.specs.Reads.{reads, reads_in}

-- whether WHERE reads a column, where there is one
abbrev pub reads_filter : ℕ → Option Cond → Bool
reads_filter place None = false
reads_filter place (Some c) = reads_in place c

-- whether the argument of an aggregate does
abbrev pub reads_argument : ℕ → Aggregate → Bool
reads_argument place CountAll = false
reads_argument place (Count e) = reads place e
reads_argument place (CountDistinct e) = reads place e
reads_argument place (Sum e) = reads place e
reads_argument place (Min e) = reads place e
reads_argument place (Max e) = reads place e

-- whether the groups do, or the items where there are none
abbrev pub reads_shape : ℕ → Shape → List Expr → Bool
reads_shape place Plain items = list_any (reads place) items
reads_shape place (Grouped keys aggregates having) items = is_one_of (unwrap_or keys []) place || list_any (reads_argument place) aggregates

-- whether ON reads a column of the rows joined so far
abbrev pub reads_left : ℕ → Join → Bool
reads_left place join = list_any (λ e. e.left == place) join.on

-- whether ON reads a column of this source
abbrev pub reads_right : Source → ℕ → Join → Bool
reads_right source column join = same_source join.source source && list_any (λ e. e.right == column) join.on

-- whether anything reads a column of the joined rows
abbrev pub reads_joined : Query → ℕ → Bool
reads_joined q place = list_any (reads_left place) q.joins || (reads_filter place q.filter || reads_shape place q.shape q.items)

-- whether a source's column is read in the joined rows, in some place of FROM from here on
abbrev pub reads_from : Query → Source → ℕ → ℕ → List Source → List ℕ → Bool
reads_from q source column before (s ∷ sources) (wide ∷ widths) =
    (same_source s source && (nat_lt column wide && reads_joined q (before + column))) || reads_from q source column (before + wide) sources widths
reads_from q source column before sources widths = false

-- whether a query reads a source's column at all
abbrev pub is_read : Query → List ℕ → Source → ℕ → Bool
is_read q widths source column = list_any (reads_right source column) q.joins || reads_from q source column 0 (sources_of q) widths
