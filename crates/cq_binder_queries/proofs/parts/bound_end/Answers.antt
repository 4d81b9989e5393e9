use Rattle.std.proofs.Common.{[], ◌∷◌, length, sym, ◌∙◌, Option}
use Rattle.std.proofs.lemmas.Result.{err_from_is_err_and}
use Rattle.cq_model.specs.Expr.{Cond}
use Rattle.cq_binder_rules.specs.Checks.{first_fault, too_long}
use Rattle.cq_binder_rules.specs.SourceChecks.{where_check}
use Rattle.cq_binder_expressions.specs.Expressions.{scope_of}
use Rattle.cq_binder_queries.proofs.Faults.{first_fault_cons, one_check, or_next, refused_front, walked_same}
use Rattle.cq_binder_queries.specs.Grouping.{IsHaving}
use Rattle.cq_binder_queries.specs.Parts.{end_walk}
use Rattle.cq_binder_queries.proofs.parts.bound_end.Goals as goal

pub returns-in_err-check_length : goal.returns-in_err-check_length
returns-in_err-check_length c =
    let p = err_from_is_err_and c.from_residual.result c.from_residual.ensures.1 in
    let q = c.args.query.now in
    let e = rw c.len.ensures at c.in_err-check_length.ensures in
    rw (p.1, p.2) (refused_front (too_long (length q.items) ∷ []) (where_check (scope_of c.args.scope.now) q.having ∷ []) c.in_err-check_length.field-0.0 e)

pub returns : goal.returns
returns c =
    let q = c.args.query.now in
    let s = scope_of c.args.scope.now in
    let number = too_long (length q.items) in
    let short = rw c.len.ensures at c.in_ok-check_length.ensures in
    let same = first_fault_cons number (where_check s q.having ∷ []) ∙ or_next number (first_fault (where_check s q.having ∷ [])) (sym (one_check number) ∙ short.0) in
    walked_same (where_check s q.having ∷ []) (end_walk s q) (λ (having : Option Cond). IsHaving s c.args.aggregates.now c.bound_having.new.aggregates q.having having) c.bound_having.result same c.bound_having.ensures
