-- What a plan means: the joined rows that WHERE keeps.
use Rattle.std.specs.Prelude.{◌≡◌, ℕ, List, Option, filter}
use Rattle.cq_values.specs.Value.{Row}
use Rattle.cq_model.specs.Expr.{Cond}
use Rattle.cq_model.specs.Meaning.{keeps}
use Rattle.cq_model.specs.declared.query.Order.{Order}
use Rattle.cq_model.specs.declared.query.Query.{Query}
use Rattle.cq_plan.specs.Chain.{joined_lists}
use Rattle.cq_plan.specs.Planned.{AsksWhere, HaveColumns, asked_behind, joined_by, widths_of}
use Rattle.cq_plan.specs.declared.plans.Plan.{Plan}

-- each part of WHERE is asked of one source or of the joined rows
abbrev pub IsWhole : Plan → Type 0
IsWhole plan = AsksWhere plan.query.now plan.sources.items plan.asks_behind

-- the plan is of this query and this order, with sources of so many columns
pub record IsPlanOf (q : Query) (asked : Order) (widths : List ℕ) (plan : Plan) : Type 0 where
  pub query : plan.query.now ≡ q
  pub order : plan.order.now ≡ asked
  pub wide : widths_of plan.sources.items ≡ widths
  pub whole : IsWhole plan

-- the joined rows that WHERE keeps, of the rows of each source in the order of FROM
abbrev pub kept_of : Query → List (List Row) → List Row
kept_of q sources = filter (keeps q.filter) (joined_lists q.joins sources)

-- what is asked of the joined rows
abbrev pub behind_of : Plan → Option Cond
behind_of plan = asked_behind plan.asks_behind plan.query.now.filter

-- those that are left where each source is asked before the joins, and the joined rows behind them
abbrev pub kept_by : Plan → List (List Row) → List Row
kept_by plan sources = filter (keeps (behind_of plan)) (joined_by plan.query.now.joins plan.sources.items sources)

-- they are the rows that the query keeps
abbrev pub MeansQuery : Plan → Type 0
MeansQuery plan = (sources : List (List Row)) → HaveColumns plan.sources.items sources → kept_by plan sources ≡ kept_of plan.query.now sources
