use Rattle.std.proofs.Common.{◌≡◌, IfOk, List, subst, sym}
use Rattle.cq_values.specs.declared.value.Value.{Value}
use Rattle.cq_prims_arithmetic.specs.Operation.{AllInRange}
use Rattle.cq_prims_arithmetic.proofs.CallLemmas.{differences}
use Rattle.cq_prims_arithmetic.proofs.arithmetic.sub.Goals as goal

pub worked-requires-clause-fits : goal.worked-requires-clause-fits
worked-requires-clause-fits c = subst AllInRange (differences c.args.a.now c.args.b.now) c.requires.fits

pub returns : goal.returns
returns c = subst (λ (l : List Value). IfOk c.worked.result (λ made. made ≡ l)) (sym (differences c.args.a.now c.args.b.now)) c.worked.ensures
