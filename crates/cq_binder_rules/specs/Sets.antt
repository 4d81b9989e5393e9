-- What WHERE and SET say over a source once their names are resolved (docs/LANGUAGE.md, Statements).
use Rattle.std.specs.Prelude.{List, map, Option, option_map, unwrap_or}
use Rattle.cq_sql_language.specs.declared.statement.SetClause.{SetClause}
use Rattle.cq_sql_language.specs.Written.{Written}
use Rattle.cq_model.specs.declared.assignment.Assignment.{Assignment}
use Rattle.cq_model.specs.Expr.{Cond}
use Rattle.cq_binder_rules.specs.Places.{named_place}
use Rattle.cq_binder_rules.specs.Scopes.{bound_condition, bound_value}
use Rattle.cq_binder_rules.specs.Typing.{Scope}

-- WHERE, where it is there
abbrev pub bound_where : Scope → Option Written → Option Cond
bound_where s condition = option_map (bound_condition s) condition

-- an assignment by the place of its column; its expression reads the old row
abbrev pub bound_set : Scope → SetClause → Assignment
bound_set s a = record { column = unwrap_or (named_place s.columns a.column) 0; value = bound_value s a.value }

-- SET, assignment by assignment
abbrev pub bound_sets : Scope → List SetClause → List Assignment
bound_sets s sets = map (bound_set s) sets
