use Rattle.std.proofs.Common.{◌≡◌, List, None, subst}
use Rattle.cq_binder_rules.specs.Checks.{first_fault, MayRefuse}
use Rattle.cq_binder_rules.specs.Refusal.{bag_checks}
use Rattle.cq_binder_rules.specs.Typing.{ScopeColumn}
use Rattle.cq_binder_queries.specs.From.{shown_from}
use Rattle.cq_binder_queries.specs.Parts.{AreBoundParts}
use Rattle.cq_binder_queries.proofs.Selecting.{bag_refused, order_refused, query_passes, select_made}
use Rattle.cq_binder_queries.proofs.reading.bind_query.Goals as goal

pub returns-in-Err : goal.returns-in-Err
returns-in-Err c =
    let q = c.args.select.now in
    let f = c.in-Err.fault in
    let e = subst (λ (columns : List ScopeColumn). MayRefuse (first_fault (bag_checks q columns)) f) c.deref.ensures.value c.in-Err.ensures in
    bag_refused q (shown_from c.args.from) f e

pub returns-in-Err-sort_keys : goal.returns-in-Err-sort_keys
returns-in-Err-sort_keys c =
    let q = c.args.select.now in
    let header = rw c.as_slice.ensures at c.in_ok-header.ensures in
    let free = subst (λ (columns : List ScopeColumn). first_fault (bag_checks q columns) ≡ None) c.deref.ensures.value c.in-Ok.ensures.0 in
    let e = rw (c.as_slice-3.ensures, c.as_slice-2.ensures, header) at c.in-Err-sort_keys.ensures in
    order_refused q (shown_from c.args.from) free c.in-Err-sort_keys.fault e

pub returns : goal.returns
returns c =
    let q = c.args.select.now in
    let from = shown_from c.args.from in
    let header = rw c.as_slice.ensures at c.in_ok-header.ensures in
    let free = subst (λ (columns : List ScopeColumn). first_fault (bag_checks q columns) ≡ None) c.deref.ensures.value c.in-Ok.ensures.0 in
    let parts = subst (λ (columns : List ScopeColumn). AreBoundParts columns q c.in-Ok.parts) c.deref.ensures.value c.in-Ok.ensures.1 in
    let keys = rw (c.as_slice-3.ensures, c.as_slice-2.ensures, header) at c.in-Ok-sort_keys.ensures in
    (query_passes q from free keys.0, select_made q from c.in_ok-header.header c.query_of.result c.in-Ok.parts c.in-Ok-sort_keys.keys header c.query_of.ensures keys.1 parts)
