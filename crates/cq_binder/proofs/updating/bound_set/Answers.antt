use Rattle.std.proofs.Common.{◌≡◌, rules, sym, ap, ◌∙◌, subst, false}
use Rattle.std.specs.Prelude.{Ok, Err, Some}
use Rattle.std.proofs.lemmas.Result.{err_from_is_err_and}
use Rattle.cq_values.specs.declared.ty.Ty.{Ty}
use Rattle.cq_binder_rules.specs.Checks.{MayRefuse}
use Rattle.cq_binder_rules.specs.Places.{named_place}
use Rattle.cq_binder_rules.specs.Typing.{ScopeColumn, set_fault, typed}
use Rattle.cq_binder_rules.specs.UpdateChecks.{is_set}
use Rattle.cq_binder_expressions.specs.Expressions.{scope_of}
use Rattle.cq_binder.proofs.Setting.{expression_refused, type_refused}
use Rattle.cq_binder.proofs.updating.bound_set.Goals as goal

pub returns-in_err-typing : goal.returns-in_err-typing
returns-in_err-typing c =
    let p = err_from_is_err_and c.from_residual.result c.from_residual.ensures.1 in
    let s = scope_of c.args.scope.now in
    let there : named_place s.columns c.args.set.now.column ≡ Some c.in-Some.column = search rules in
    let walked : typed s c.args.set.now.value ≡ Err c.in_err-typing.field-0.0 = search rules in
    rw (p.1, p.2) (expression_refused s c.args.before.now c.args.set.now c.in-Some.column c.in_err-typing.field-0.0 there walked)

pub returns-in_err-value : goal.returns-in_err-value
returns-in_err-value c =
    let p = err_from_is_err_and c.from_residual-in_err-value.result c.from_residual-in_err-value.ensures.1 in
    let s = scope_of c.args.scope.now in
    let a = c.args.set.now in
    let there : named_place s.columns a.column ≡ Some c.in-Some.column = search rules in
    let fresh : is_set c.args.before.now a.column ≡ false = search rules in
    let walked : typed s a.value ≡ Ok c.in_ok-typing.typing = search rules in
    let told = rw c.node.ensures at c.in_err-value.ensures in
    let own = c.ty-ty.ensures ∙ ap (λ (d : ScopeColumn). d.ty) (sym c.index-scope-column.is) in
    let m = subst (λ (ty : Ty). MayRefuse (set_fault ty (typed s a.value)) c.in_err-value.field-0.0) own told in
    rw (p.1, p.2) (type_refused s c.args.before.now a c.in-Some.column c.index-scope-column.result c.in_ok-typing.typing there fresh walked c.index-scope-column.is c.in_err-value.field-0.0 m)
