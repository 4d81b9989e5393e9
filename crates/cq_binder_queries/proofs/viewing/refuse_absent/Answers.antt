use Rattle.std.proofs.lemmas.Result.{err_from_is_err_and}
use Rattle.cq_binder_rules.specs.ViewChecks.{absent_checks, no_clause}
use Rattle.cq_binder_queries.proofs.Faults.{walked_same}
use Rattle.cq_binder_queries.proofs.Creating.{having_refused, keys_refused, limit_decides, order_refused}
use Rattle.std.proofs.Common.{[], ◌∷◌}
use Rattle.std.specs.Prelude.{is_some}
use Rattle.cq_binder_queries.proofs.viewing.refuse_absent.Goals as goal

pub returns-in_err-refuse_clause : goal.returns-in_err-refuse_clause
returns-in_err-refuse_clause c =
    let p = err_from_is_err_and c.from_residual.result c.from_residual.ensures.1 in
    let e = rw c.is_some.ensures at c.in_err-refuse_clause.ensures in
    rw (p.1, p.2) (having_refused c.args.view.now c.in_err-refuse_clause.field-0.0 e)

pub returns-in_err-bound_keys : goal.returns-in_err-bound_keys
returns-in_err-bound_keys c =
    let p = err_from_is_err_and c.from_residual-in_err-bound_keys.result c.from_residual-in_err-bound_keys.ensures.1 in
    let held = rw c.is_some.ensures at c.in_ok-refuse_clause.ensures in
    let names = rw c.as_slice.ensures at c.in_ok-names.ensures in
    let e = rw (c.as_slice-3.ensures, c.as_slice-2.ensures, names) at c.in_err-bound_keys.ensures in
    rw (p.1, p.2) (keys_refused c.args.view.now held.0 c.in_err-bound_keys.field-0.0 e)

pub returns-in_err-refuse_clause-2 : goal.returns-in_err-refuse_clause-2
returns-in_err-refuse_clause-2 c =
    let p = err_from_is_err_and c.from_residual-in_err-refuse_clause-2.result c.from_residual-in_err-refuse_clause-2.ensures.1 in
    let held = rw c.is_some.ensures at c.in_ok-refuse_clause.ensures in
    let names = rw c.as_slice.ensures at c.in_ok-names.ensures in
    let keyed = rw (c.as_slice-3.ensures, c.as_slice-2.ensures, names) at c.in_ok-bound_keys.ensures in
    let e = rw c.is_empty.ensures at c.in_err-refuse_clause-2.ensures in
    rw (p.1, p.2) (order_refused c.args.view.now held.0 keyed.0 c.in_err-refuse_clause-2.field-0.0 e)

pub returns : goal.returns
returns c =
    let v = c.args.view.now in
    let held = rw c.is_some.ensures at c.in_ok-refuse_clause.ensures in
    let names = rw c.as_slice.ensures at c.in_ok-names.ensures in
    let keyed = rw (c.as_slice-3.ensures, c.as_slice-2.ensures, names) at c.in_ok-bound_keys.ensures in
    let ordered = rw c.is_empty.ensures at c.in_ok-refuse_clause-2.ensures in
    let left = rw c.is_some-2.ensures at c.refuse_clause-3.ensures in
    walked_same (no_clause (is_some v.limit) ∷ []) (absent_checks v) (λ x. Unit {0}) c.refuse_clause-3.result (limit_decides v held.0 keyed.0 ordered.0) left
