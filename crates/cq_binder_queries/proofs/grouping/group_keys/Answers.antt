use Rattle.std.proofs.Common.{[], ◌∷◌, map, length}
use Rattle.std.proofs.lemmas.Result.{err_from_is_err_and}
use Rattle.cq_binder_rules.specs.Checks.{too_long}
use Rattle.cq_binder_rules.specs.SourceChecks.{group_check}
use Rattle.cq_binder_queries.proofs.Faults.{none_append, refused_back, refused_front}
use Rattle.cq_binder_queries.proofs.grouping.group_keys.Goals as goal

pub returns-in_err-keys : goal.returns-in_err-keys
returns-in_err-keys c =
    let p = err_from_is_err_and c.from_residual.result c.from_residual.ensures.1 in
    rw (p.1, p.2) (refused_front (map (group_check c.args.columns.now) c.args.names.now) (too_long (length c.args.names.now) ∷ []) c.in_err-keys.field-0.0 c.in_err-keys.ensures)

pub returns-in_err-check_length : goal.returns-in_err-check_length
returns-in_err-check_length c =
    let p = err_from_is_err_and c.from_residual-in_err-check_length.result c.from_residual-in_err-check_length.ensures.1 in
    rw (p.1, p.2) (refused_back (map (group_check c.args.columns.now) c.args.names.now) (too_long (length c.args.names.now) ∷ []) c.in_err-check_length.field-0.0 c.in_ok-keys.ensures.0 c.in_err-check_length.ensures)

pub returns : goal.returns
returns c =
    (none_append (map (group_check c.args.columns.now) c.args.names.now) (too_long (length c.args.names.now) ∷ []) c.in_ok-keys.ensures.0 c.in_ok-check_length.ensures.0, c.in_ok-keys.ensures.1)
