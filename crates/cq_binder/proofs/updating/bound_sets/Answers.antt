use Rattle.std.proofs.lemmas.Result.{err_from_is_err_and}
use Rattle.cq_binder_expressions.specs.Expressions.{scope_of}
use Rattle.cq_binder.proofs.Setting.{sets_refused}
use Rattle.cq_binder.proofs.updating.bound_sets.Goals as goal

pub returns-in_err-bound_set : goal.returns-in_err-bound_set
returns-in_err-bound_set c =
    let p = err_from_is_err_and c.from_residual.result c.from_residual.ensures.1 in
    rw (p.1, p.2)
    (sets_refused (scope_of c.args.scope.now) c.args.sets.now c.loop-i.i c.index-sets-i.result c.loop-i-test.true c.index-sets-i.is c.in_err-bound_set.field-0.0 c.loop-i.invariant.1 c.in_err-bound_set.ensures)
