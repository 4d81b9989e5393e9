-- SELECT with its names resolved.
use Rattle.std.specs.Prelude.{◌≡◌, List, Some, option_map, Result}
use Rattle.cq_binder_rules.specs.From.{From, from_walk}
use Rattle.cq_sql_language.specs.declared.statement.Select.{Select}
use Rattle.cq_model_state.specs.State.{State}
use Rattle.cq_binder_rules.specs.declared.bound.Bound.{Bound}
use Rattle.cq_binder_rules.specs.declared.fault.Fault.{Fault}
use Rattle.cq_binder_rules.specs.Bound.{bound_select, standing}
use Rattle.cq_binder_rules.specs.Refusal.{bag_checks, select_checks, source_checks}
use Rattle.cq_binder_rules.specs.Typing.{ScopeColumn}
use Rattle.cq_binder_queries.specs.declared.parts.BoundParts.{BoundParts}
use Rattle.cq_binder_queries.specs.Parts.{AreBoundParts}
use Rattle.cq_binder_queries.specs.Walk.{Walked, WalksTo}

-- what makes the bag of a query is bound where it has no fault
abbrev pub BindsParts : List ScopeColumn → Select → Result BoundParts Fault → Type 0
BindsParts columns q result = Walked (bag_checks q columns) (AreBoundParts columns q) result

-- a query becomes its command over what FROM has joined
abbrev pub BindsQuery : From → Select → Result Bound Fault → Type 0
BindsQuery from q result = WalksTo (source_checks q from.columns) (bound_select q from) result

-- SELECT becomes its command where its walk has no fault
abbrev pub BindsSelect : State → Select → Result Bound Fault → Type 0
BindsSelect s q result =
    Walked (select_checks q (from_walk s q)) (λ command. option_map (bound_select q) (standing (from_walk s q)) ≡ Some command) result
