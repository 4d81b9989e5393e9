-- ORDER BY: what is asked of its keys, and the order that they and LIMIT say (docs/LANGUAGE.md, ORDER BY and LIMIT).
use Rattle.std.specs.Prelude.{ℕ, ◌-◌, ◌==◌, nat_lt, Bool, ◌||◌, if◌then◌else◌, List, [], ◌∷◌, ◌++◌, map, length, Option, Some, unwrap_or, position}
use Rattle.std.specs.List.{list_any}
use Rattle.cq_values.specs.Texts.{is_text}
use Rattle.cq_model_bags.specs.declared.sort_key.SortKey.{SortKey}
use Rattle.cq_model.specs.declared.query.Order.{Order}
use Rattle.cq_sql_language.specs.declared.statement.OrderKey.{OrderKey}
use Rattle.cq_sql_language.specs.declared.statement.OutputColumn.{OutputColumn}
use Rattle.cq_sql_language.specs.declared.statement.OutputColumn.TheVariants.{Named, At}
use Rattle.cq_sql_language.specs.declared.statement.Select.{Select}
use Rattle.cq_binder_rules.specs.declared.fault.Fault.{Fault}
use Rattle.cq_binder_rules.specs.declared.fault.Fault.TheVariants.{UnknownColumn, AmbiguousColumn}
use Rattle.cq_binder_rules.specs.Checks.{fault_if, too_long}
use Rattle.cq_binder_rules.specs.Headers.{header}

-- a name has to be that of one output column: it is unknown where none has it, and ambiguous where two have it
abbrev pub named_check : List ℕ → List (List ℕ) → Option Fault
named_check name [] = Some UnknownColumn
named_check name (n ∷ names) =
    if is_text n name then fault_if (list_any (λ other. is_text other name) names) AmbiguousColumn else named_check name names

-- whether a number is no place of so many output columns, which are counted from 1
abbrev pub is_no_place : ℕ → ℕ → Bool
is_no_place columns place = place == 0 || nat_lt columns place

-- a key of ORDER BY, by the names of the output columns
abbrev pub output_check : List (List ℕ) → OutputColumn → Option Fault
output_check names (Named name) = named_check name names
output_check names (At place) = fault_if (is_no_place (length names) place) UnknownColumn

-- where the output column of a name stands, from 0
abbrev pub named_place : List ℕ → List (List ℕ) → ℕ
named_place name names = unwrap_or (position (λ n. is_text n name) names) 0

-- where the output column stands that a key names
abbrev pub output_place : List (List ℕ) → OutputColumn → ℕ
output_place names (Named name) = named_place name names
output_place names (At place) = place - 1

-- the checks of the keys, one after the other
abbrev pub key_checks : List (List ℕ) → List OrderKey → List (Option Fault)
key_checks names keys = map (λ key. output_check names key.column) keys

-- ORDER BY: each key, then the list
abbrev pub order_checks : List (List ℕ) → List OrderKey → List (Option Fault)
order_checks names keys = key_checks names keys ++ too_long (length keys) ∷ []

-- a key as it sorts: DESC turns it round
abbrev pub sort_key : List (List ℕ) → OrderKey → SortKey
sort_key names key = record { column = output_place names key.column; descending = key.is_descending }

abbrev pub sort_keys : List (List ℕ) → List OrderKey → List SortKey
sort_keys names keys = map (sort_key names) keys

-- what ORDER BY and LIMIT say of a query's result, whose columns are named by its header
abbrev pub order_of : Select → Order
order_of q = record { keys = sort_keys (header 1 q.items) q.order; limit = q.limit }
