-- WHERE with its names resolved.
use Rattle.std.specs.Prelude.{[], ◌∷◌, Option, Result}
use Rattle.cq_model.specs.Expr.{Cond}
use Rattle.cq_sql_language.specs.Written.{Written}
use Rattle.cq_binder_rules.specs.declared.fault.Fault.{Fault}
use Rattle.cq_binder_rules.specs.Sets.{bound_where}
use Rattle.cq_binder_rules.specs.SourceChecks.{where_check}
use Rattle.cq_binder_rules.specs.Typing.{Scope}
use Rattle.cq_binder_queries.specs.Walk.{WalksTo}

-- WHERE over a source becomes its condition where it has no fault
abbrev pub BindsWhere : Scope → Option Written → Result (Option Cond) Fault → Type 0
BindsWhere s condition result = WalksTo (where_check s condition ∷ []) (bound_where s condition) result
