-- What SELECT answers from tables and from views.
use Rattle.std.specs.Prelude.{◌≡◌, ◌⊎◌, List, Result, Ok, Err}
use Rattle.cq_values.specs.Value.{Row}
use Rattle.cq_model_bags.specs.Bag.{Weighted}
use Rattle.cq_model_bags.specs.Listing.{IsListing}
use Rattle.cq_model.specs.declared.fault.ShowFault.{ShowFault}
use Rattle.cq_model.specs.declared.fault.ShowFault.TheVariants as shown_fault
use Rattle.cq_model.specs.declared.query.Order.{Order}
use Rattle.cq_model.specs.declared.query.Query.{Query}
use Rattle.cq_model.specs.Meaning.{Tables, MeaningInRange, meaning}
use Rattle.cq_model.specs.Views.{with_views, AnswerInRange}
use Rattle.cq_binder_rules.specs.declared.fault.Fault.{Fault}
use Rattle.cq_binder_rules.specs.declared.fault.Fault.TheVariants.{Memory, SumOutOfRange}
use Rattle.cq_model_state.specs.State.{TableOf, ViewOf, tables_now, queries_of}
use Rattle.cq_table_columns.specs.declared.stored_source.StoredSource.{StoredSource}
use Rattle.cq_table_columns.specs.Sources.{stored_bags}
use Rattle.cq_binder_queries.specs.Catalog.{alone}

-- the rows are the one list of these in an order, cut by its LIMIT
abbrev pub AreListed : Order → Weighted → List Row → Type 0
AreListed order bag rows = IsListing order.keys order.limit bag rows

-- the bags that the names in FROM stand for
abbrev pub sources_in : List TableOf → List ViewOf → Tables
sources_in tables views = with_views (tables_now (alone tables views)) (queries_of (alone tables views))

-- the totals of the answer can be shown
abbrev pub IsInRange : List TableOf → List ViewOf → Query → Type 0
IsInRange tables views q = AnswerInRange (tables_now (alone tables views)) (queries_of (alone tables views)) q

-- SELECT answers the listing of the query's bag, or tells that a total cannot be shown
abbrev pub Selects : List TableOf → List ViewOf → Query → Order → Result (List Row) Fault → Type 0
Selects tables views q order (Ok rows) = AreListed order (meaning q (sources_in tables views)) rows × IsInRange tables views q
Selects tables views q order (Err f) = (f ≡ Memory) ⊎ ((f ≡ SumOutOfRange) × (IsInRange tables views q → ⊥))

-- the listing of the query's bag on lent rows, or that a total cannot be shown there
abbrev pub SelectsLent : Query → Order → List StoredSource → Result (List Row) Fault → Type 0
SelectsLent q order lent (Ok rows) = AreListed order (meaning q (stored_bags lent)) rows × MeaningInRange q (stored_bags lent)
SelectsLent q order lent (Err f) = (f ≡ Memory) ⊎ ((f ≡ SumOutOfRange) × (MeaningInRange q (stored_bags lent) → ⊥))

-- why the rows of a view cannot be shown
abbrev pub shown_as : ShowFault → Fault
shown_as shown_fault.Memory = Memory
shown_as shown_fault.SumOutOfRange = SumOutOfRange
