use Rattle.std.proofs.lemmas.Result.{err_from_is_err_and}
use Rattle.cq_binder_rules.specs.Grouping.{item_scope}
use Rattle.cq_binder_rules.specs.Refusal.{bag_checks}
use Rattle.cq_binder_queries.proofs.Faults.{walked_same}
use Rattle.cq_binder_queries.specs.Parts.{AreBoundParts, end_walk}
use Rattle.cq_binder_queries.proofs.Selecting.{clauses_refused, end_decides}
use Rattle.cq_binder_queries.proofs.reading.bound_parts.Goals as goal

pub returns-in_err-clauses : goal.returns-in_err-clauses
returns-in_err-clauses c =
    let p = err_from_is_err_and c.from_residual.result c.from_residual.ensures.1 in
    rw (p.1, p.2) (clauses_refused c.args.select.now c.args.columns.now c.in_err-clauses.field-0.0 c.in_err-clauses.ensures)

pub returns : goal.returns
returns c =
    let q = c.args.select.now in
    let columns = c.args.columns.now in
    walked_same (end_walk (item_scope q columns) q) (bag_checks q columns) (AreBoundParts columns q) c.ended_parts.result (end_decides q columns c.in_ok-clauses.ensures.0) c.ended_parts.ensures
