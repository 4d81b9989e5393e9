use Rattle.std.proofs.Common.{[], ◌∷◌}
use Rattle.std.proofs.lemmas.Result.{err_from_is_err_and}
use Rattle.cq_binder_rules.specs.ViewChecks.{no_clause}
use Rattle.cq_binder_expressions.specs.Expressions.{scope_of}
use Rattle.cq_binder_queries.proofs.ViewNames.{name_refused, names_pass, rest_refused}
use Rattle.cq_binder_queries.proofs.names.view_columns.Goals as goal

pub returns-in_err-check_names : goal.returns-in_err-check_names
returns-in_err-check_names c =
    let p = err_from_is_err_and c.from_residual-in_err-check_names.result c.from_residual-in_err-check_names.ensures.1 in
    let named = rw c.as_slice.ensures at c.in_ok-columns.ensures in
    let e = rw c.as_slice-2.ensures at c.in_err-check_names.ensures in
    rw (p.1, p.2) (name_refused (scope_of c.args.scope.now) c.args.view.now.items (no_clause c.args.view.now.is_distinct ∷ []) c.in_ok-columns.columns named c.in_err-check_names.field-0.0 e)

pub returns-in_err-refuse_clause : goal.returns-in_err-refuse_clause
returns-in_err-refuse_clause c =
    let p = err_from_is_err_and c.from_residual-in_err-refuse_clause.result c.from_residual-in_err-refuse_clause.ensures.1 in
    let named = rw c.as_slice.ensures at c.in_ok-columns.ensures in
    let distinct = rw c.as_slice-2.ensures at c.in_ok-check_names.ensures in
    rw (p.1, p.2) (rest_refused (scope_of c.args.scope.now) c.args.view.now.items (no_clause c.args.view.now.is_distinct ∷ []) c.in_ok-columns.columns named c.in_err-refuse_clause.field-0.0 distinct.0 c.in_err-refuse_clause.ensures)

pub returns : goal.returns
returns c =
    let named = rw c.as_slice.ensures at c.in_ok-columns.ensures in
    let distinct = rw c.as_slice-2.ensures at c.in_ok-check_names.ensures in
    (names_pass (scope_of c.args.scope.now) c.args.view.now.items (no_clause c.args.view.now.is_distinct ∷ []) c.in_ok-columns.columns named distinct.0 c.in_ok-refuse_clause.ensures.0, named)
