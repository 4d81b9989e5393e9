use Rattle.std.proofs.Common.{◌∙◌, ap, subst, sym}
use Rattle.std.proofs.lemmas.Result.{IfOk-weaker}
use Rattle.std.specs.List.{AllByRecursion}
use Rattle.cq_model.specs.Trees.{cond_of}
use Rattle.cq_operators_scans.specs.Asked.{IsExactBehind, passing_one}
use Rattle.cq_operators_conditions.proofs.passed.pass_one.Goals as goal

pub pass_marked-requires : goal.pass_marked-requires
pass_marked-requires c = subst (AllByRecursion (IsExactBehind c.args.before (cond_of c.args.condition.now))) c.in-Some.ensures c.requires.exact

pub returns-in-Some : goal.returns-in-Some
returns-in-Some c = IfOk-weaker c.pass_marked.result _ _ (λ rows h. h ∙ ap (passing_one c.args.before c.args.condition.now) (sym c.in-Some.ensures)) c.pass_marked.ensures
