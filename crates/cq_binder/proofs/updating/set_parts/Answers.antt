use Rattle.std.proofs.Common.{[], ◌∷◌}
use Rattle.cq_binder_rules.specs.SourceChecks.{where_check}
use Rattle.cq_binder_rules.specs.UpdateChecks.{set_checks}
use Rattle.cq_binder_expressions.specs.Expressions.{scope_of}
use Rattle.cq_binder_queries.proofs.Faults.{refused_back}
use Rattle.cq_binder.proofs.updating.set_parts.Goals as goal

pub returns-in-Err : goal.returns-in-Err
returns-in-Err c =
    let s = scope_of c.args.scope.now in
    refused_back (where_check s c.args.condition.now ∷ []) (set_checks s [] c.args.sets.now) c.in-Err.fault c.in_ok-condition.ensures.0 c.in-Err.ensures
