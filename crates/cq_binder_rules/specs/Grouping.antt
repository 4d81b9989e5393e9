-- Which queries show groups of rows (ISO 9075-2, 7.12 and 7.16), and what their items read.
use Rattle.std.specs.Prelude.{◌==◌, Bool, true, false, ◌||◌, not, if◌then◌else◌, List, length, is_some}
use Rattle.std.specs.List.{list_any}
use Rattle.cq_sql_language.specs.declared.statement.Select.{Select}
use Rattle.cq_sql_language.specs.Written.{Written, Choices, CountAll, Aggregate, Extract, Parens, Negative, Times, Plus, Minus, Compare, IsNull, Between, In, Like, Not, And, Or, NoChoice, Choice}
use Rattle.cq_binder_rules.specs.Headers.{shown_by}
use Rattle.cq_binder_rules.specs.Scopes.{in_groups, of_rows}
use Rattle.cq_binder_rules.specs.Typing.{Scope, ScopeColumn}

abbrev mutual
  -- whether an aggregate stands in an expression
  pub has_aggregate : Written → Bool
  has_aggregate CountAll = true
  has_aggregate (Aggregate function a) = true
  has_aggregate (Extract part a) = has_aggregate a
  has_aggregate (Parens a) = has_aggregate a
  has_aggregate (Negative a) = has_aggregate a
  has_aggregate (Times a b) = has_aggregate a || has_aggregate b
  has_aggregate (Plus a b) = has_aggregate a || has_aggregate b
  has_aggregate (Minus a b) = has_aggregate a || has_aggregate b
  has_aggregate (Compare c a b) = has_aggregate a || has_aggregate b
  has_aggregate (IsNull negated a) = has_aggregate a
  has_aggregate (Between negated a least greatest) = has_aggregate a || (has_aggregate least || has_aggregate greatest)
  has_aggregate (In negated a bs) = has_aggregate a || chooses_aggregate bs
  has_aggregate (Like negated a pattern) = has_aggregate a
  has_aggregate (Not a) = has_aggregate a
  has_aggregate (And a b) = has_aggregate a || has_aggregate b
  has_aggregate (Or a b) = has_aggregate a || has_aggregate b
  has_aggregate w = false

  -- whether one stands in an entry of the list behind IN
  pub chooses_aggregate : Choices → Bool
  chooses_aggregate NoChoice = false
  chooses_aggregate (Choice b bs) = has_aggregate b || chooses_aggregate bs

abbrev pub is_empty : {A : Type 0} → List A → Bool
is_empty xs = length xs == 0

-- a query is grouped if it has GROUP BY, HAVING or an aggregate among its items
abbrev pub is_grouped : Select → Bool
is_grouped q = not (is_empty q.group) || (is_some q.having || list_any has_aggregate (shown_by q.items))

-- what the items and HAVING read: the groups of the joined rows, or these rows themselves
abbrev pub item_scope : Select → List ScopeColumn → Scope
item_scope q columns = if is_grouped q then in_groups q.group columns else of_rows columns
