use Rattle.std.proofs.Common.{◌≡◌, List, rules, subst, sym}
use lib.Lanes.{zip2}
use Rattle.cq_values.specs.declared.value.Value.{Value}
use Rattle.cq_prims_arithmetic.specs.Operation.{AllAddInRange, lifted}
use Rattle.cq_prims_arithmetic.proofs.combined.from_own.Goals as goal

pub by_forms-made-requires-in-Some-None-clause-fits : goal.by_forms-made-requires-in-Some-None-clause-fits
by_forms-made-requires-in-Some-None-clause-fits g c =
    let own : c.in-Some-None.a ≡ c.args.of.now.a.now = search rules in
    subst (λ (vs : List Value). AllAddInRange (zip2 (lifted g.O.Operation.apply) vs c.args.of.now.b.now)) (sym own) c.args.of.now.fits

pub by_forms-made-requires-clause-fits : goal.by_forms-made-requires-clause-fits
by_forms-made-requires-clause-fits g c =
    let left : c.in-Some-Some.a ≡ c.args.of.now.a.now = search rules in
    let right : c.in-Some-Some.b ≡ c.args.of.now.b.now = search rules in
    subst (λ (vs : List Value). AllAddInRange (zip2 (lifted g.O.Operation.apply) vs c.in-Some-Some.b)) (sym left)
    (subst (λ (vs : List Value). AllAddInRange (zip2 (lifted g.O.Operation.apply) c.args.of.now.a.now vs)) (sym right) c.args.of.now.fits)
