use Rattle.std.proofs.Common.{◌++◌, subst, sym, ap, arith, length}
use Rattle.memchr.specs.Find.{FindsNeedle}
use Rattle.cq_prims_like.proofs.PlaceLemmas.{none_within, first_within, late_within}
use Rattle.cq_prims_like.proofs.places.place_within.Goals as goal

pub returns-in_err-place : goal.returns-in_err-place
returns-in_err-place c front text rest far long found =
    let run = c.args.run.now in
    let none = subst (λ r. FindsNeedle (front ++ (text ++ rest)) run c.args.start r) c.in_err-place.was found in
    subst (λ r. FindsNeedle text run 0 r) (sym c.from_residual.ensures) (none_within run front text rest c.args.start far none)

pub returns-then-place-needle : goal.returns-then-place-needle
returns-then-place-needle c front text rest far long found =
    let run = c.args.run.now in
    let first = subst (λ r. FindsNeedle (front ++ (text ++ rest)) run c.args.start r) c.in_ok-place.was found in
    first_within run front text rest c.args.start far c.in_ok-place.place first (omega (arith, long, c.if-place-needle.true, ap length c.needle.ensures))

pub returns-else-place-needle : goal.returns-else-place-needle
returns-else-place-needle c front text rest far long found =
    let run = c.args.run.now in
    let first = subst (λ r. FindsNeedle (front ++ (text ++ rest)) run c.args.start r) c.in_ok-place.was found in
    late_within run front text rest c.args.start far c.in_ok-place.place first (omega (arith, long, c.if-place-needle.false, ap length c.needle.ensures))
