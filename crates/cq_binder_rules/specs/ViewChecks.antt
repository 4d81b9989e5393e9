-- What is asked of a view's query, in the order of the walk (docs/LANGUAGE.md, Refusals).
use Rattle.std.specs.Prelude.{ℕ, Bool, false, ◌||◌, not, List, [], ◌∷◌, ◌++◌, map, length, Option, Some, is_some, Result, Ok, Err}
use Rattle.std.specs.List.{list_any}
use Rattle.cq_values.specs.Texts.{is_text}
use Rattle.cq_sql_language.specs.declared.statement.Select.{Select}
use Rattle.cq_model_state.specs.State.{State, is_taken}
use Rattle.cq_binder_rules.specs.declared.fault.Fault.{Fault}
use Rattle.cq_binder_rules.specs.declared.fault.Fault.TheVariants.{NameTaken, ClauseInView}
use Rattle.cq_binder_rules.specs.From.{From, view_walk}
use Rattle.cq_binder_rules.specs.Grouping.{is_empty, item_scope}
use Rattle.cq_binder_rules.specs.Scopes.{of_rows}
use Rattle.cq_binder_rules.specs.Headers.{header, shown_by}
use Rattle.cq_binder_rules.specs.Orders.{key_checks}
use Rattle.cq_binder_rules.specs.Typing.{ScopeColumn}
use Rattle.cq_binder_rules.specs.Checks.{fault_if, too_long}
use Rattle.cq_binder_rules.specs.SourceChecks.{group_checks, kept_check, where_check}

-- whether one of these names stands before it: among the names before the list, or in the list itself
abbrev pub repeats : List (List ℕ) → List (List ℕ) → Bool
repeats before [] = false
repeats before (name ∷ names) = list_any (λ b. is_text b name) before || repeats (before ++ name ∷ []) names

-- a clause that a view may not have
abbrev pub no_clause : Bool → Option Fault
no_clause there = fault_if there ClauseInView

-- the list of a view's items: no two have one name, it has no DISTINCT, and it is not too long
abbrev pub list_checks : Select → List (Option Fault)
list_checks v = fault_if (repeats [] (header 1 v.items)) NameTaken ∷ no_clause v.is_distinct ∷ too_long (length v.items) ∷ []

-- no view has HAVING, nor ORDER BY, whose keys are walked through before and however many they are, nor LIMIT
abbrev pub absent_checks : Select → List (Option Fault)
absent_checks v =
    no_clause (is_some v.having)
    ∷ key_checks (header 1 v.items) v.order
    ++ no_clause (not (is_empty v.order))
    ∷ no_clause (is_some v.limit)
    ∷ []

-- a view's query behind FROM: WHERE, GROUP BY, each item, their list, the walk through HAVING, and then what no view has
abbrev pub query_checks : Select → List ScopeColumn → List (Option Fault)
query_checks v columns =
    where_check (of_rows columns) v.condition
    ∷ group_checks columns v.group
    ++ (map (kept_check (item_scope v columns)) (shown_by v.items)
    ++ (list_checks v ++ where_check (item_scope v columns) v.having ∷ absent_checks v))

-- a view's query: FROM, and what stands behind it
abbrev pub view_select_checks : Select → Result From Fault → List (Option Fault)
view_select_checks v (Err f) = Some f ∷ []
view_select_checks v (Ok from) = query_checks v from.columns

-- CREATE VIEW: the name, then the query
abbrev pub create_view_checks : List ℕ → Select → State → List (Option Fault)
create_view_checks name v s = fault_if (is_taken name s) NameTaken ∷ view_select_checks v (view_walk s v)
