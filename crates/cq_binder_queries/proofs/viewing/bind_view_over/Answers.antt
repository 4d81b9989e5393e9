use Rattle.std.proofs.Common.{◌≡◌, List, None, subst}
use Rattle.cq_binder_rules.specs.Checks.{first_fault, MayRefuse}
use Rattle.cq_binder_rules.specs.Typing.{ScopeColumn}
use Rattle.cq_binder_rules.specs.ViewChecks.{query_checks}
use Rattle.cq_binder_queries.specs.From.{shown_from}
use Rattle.cq_binder_queries.specs.View.{IsBoundView}
use Rattle.cq_binder_queries.proofs.Creating.{view_made}
use Rattle.cq_binder_queries.proofs.viewing.bind_view_over.Goals as goal

pub returns-in-Err : goal.returns-in-Err
returns-in-Err c =
    subst (λ (columns : List ScopeColumn). MayRefuse (first_fault (query_checks c.args.view.now columns)) c.in-Err.fault) c.deref.ensures.value c.in-Err.ensures

pub returns : goal.returns
returns c =
    let v = c.args.view.now in
    let free = subst (λ (columns : List ScopeColumn). first_fault (query_checks v columns) ≡ None) c.deref.ensures.value c.in-Ok.ensures.0 in
    let shown = subst (λ (columns : List ScopeColumn). IsBoundView columns v c.in-Ok.shown) c.deref.ensures.value c.in-Ok.ensures.1 in
    (free, view_made c.args.name.now c.in_ok-name.name v (shown_from c.args.from) c.query_of.result c.in-Ok.shown c.in_ok-name.ensures c.query_of.ensures shown)
