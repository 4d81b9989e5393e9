use Rattle.std.proofs.Common.{◌≡◌, ◌∙◌, sym, ap, length, replicate, true, rules}
use Rattle.cq_values.specs.Lent.{owned}
use Rattle.cq_values.specs.declared.truth.Truth.{Truth}
use Rattle.cq_model.specs.Condition.{is_null}
use Rattle.cq_prims.proofs.Compared.{constants_compared, null_compared, compared_with_null}
use Rattle.cq_prims.proofs.comparisons.constant_truth.Goals as goal

pub returns-in-Some-Some : goal.returns-in-Some-Some
returns-in-Some-Some c =
    let two = c.in-Some-Some in
    constants_compared c.args.comparison c.args.a.now c.args.b.now c.requires (owned two.v.now) (owned two.w.now) two.ensures two.ensures'
    ∙ ap (λ (t : Truth). replicate (length c.args.a.now) t) (sym c.compare.ensures)

pub returns-in-Some-None : goal.returns-in-Some-None
returns-in-Some-None c =
    let one = c.in-Some-None in
    let none : is_null (owned one.v.now) ≡ true = search rules in
    null_compared c.args.comparison c.args.a.now c.args.b.now c.requires (owned one.v.now) none one.ensures

pub returns-in-None-Some : goal.returns-in-None-Some
returns-in-None-Some c =
    let one = c.in-None-Some in
    let none : is_null (owned one.w.now) ≡ true = search rules in
    compared_with_null c.args.comparison c.args.a.now c.args.b.now c.requires (owned one.w.now) none one.ensures'
