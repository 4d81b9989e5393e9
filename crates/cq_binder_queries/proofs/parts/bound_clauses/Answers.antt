use Rattle.std.proofs.Common.{◌≡◌, List, [], ◌∷◌, map, None, Ok, subst}
use Rattle.std.proofs.lemmas.Result.{err_from_is_err_and}
use Rattle.cq_model.specs.declared.query.Aggregate.{Aggregate}
use Rattle.cq_binder_rules.specs.Checks.{first_fault, MayRefuse}
use Rattle.cq_binder_rules.specs.Grouping.{item_scope}
use Rattle.cq_binder_rules.specs.Headers.{shown_by}
use Rattle.cq_binder_rules.specs.SourceChecks.{where_check}
use Rattle.cq_binder_rules.specs.Typing.{Scope}
use Rattle.cq_binder_queries.specs.Conditions.{BindsWhere}
use Rattle.cq_binder_queries.specs.Items.{AreItems, BindsItems, item_check}
use Rattle.cq_binder_queries.proofs.Clauses.{clauses_pass, group_refused, items_refused}
use Rattle.cq_binder_queries.proofs.parts.bound_clauses.Goals as goal

pub returns-in_err-keys : goal.returns-in_err-keys
returns-in_err-keys c =
    let p = err_from_is_err_and c.from_residual-in_err-keys.result c.from_residual-in_err-keys.ensures.1 in
    let q = c.args.query.now in
    let filter = subst (λ (s : Scope). first_fault (where_check s q.condition ∷ []) ≡ None) c.of_rows.ensures c.in_ok-filter.ensures.0 in
    let e = rw c.as_slice.ensures at c.in_err-keys.ensures in
    rw (p.1, p.2) (group_refused c.args.purpose q c.args.columns.now filter c.in_err-keys.field-0.0 e)

pub returns-in-Err : goal.returns-in-Err
returns-in-Err c =
    let q = c.args.query.now in
    let f = c.in-Err.fault in
    let filter = subst (λ (s : Scope). first_fault (where_check s q.condition ∷ []) ≡ None) c.of_rows.ensures c.in_ok-filter.ensures.0 in
    let keys = rw c.as_slice.ensures at c.in_ok-keys.ensures in
    let e = rw c.as_slice-3.ensures at c.in-Err.ensures in
    let m = subst (λ (s : Scope). MayRefuse (first_fault (map (item_check c.args.purpose s) (shown_by q.items))) f) c.item_scope-scope.ensures e in
    items_refused c.args.purpose q c.args.columns.now filter keys.0 f m

pub returns : goal.returns
returns c =
    let q = c.args.query.now in
    let columns = c.args.columns.now in
    let purpose = c.args.purpose in
    let behind = c.bound_items.new.aggregates in
    let filter = subst (λ (s : Scope). BindsWhere s q.condition (Ok c.in_ok-filter.filter)) c.of_rows.ensures c.in_ok-filter.ensures in
    let keys = rw c.as_slice.ensures at c.in_ok-keys.ensures in
    let items = rw c.as_slice-3.ensures at c.in-Ok.ensures in
    let shown = subst (λ (s : Scope). BindsItems purpose s c.new-aggregates.result behind q.items (Ok c.in-Ok.items)) c.item_scope-scope.ensures items in
    let first = subst (λ (before : List Aggregate). AreItems (item_scope q columns) before behind q.items c.in-Ok.items) c.new-aggregates.ensures shown.1 in
    (clauses_pass purpose q columns filter.0 keys.0 shown.0, record { filter = filter.1; keys = keys.1; aggregates = first.aggregates; items = first.values })
