use Rattle.std.proofs.Common.{◌≡◌, take, to_z, of_z, ◌<◌, length, sym, ap, ap₂, subst, ◌∙◌, arith}
use Rattle.std.specs.Int.{w128}
use Rattle.std.proofs.lemmas.Int.{ints, to_z-of_z}
use lib.Lanes.{zip2}
use Rattle.cq_model.specs.Exact.{ValueInRange}
use Rattle.cq_model.specs.Group.{addend}
use Rattle.cq_prims_arithmetic.specs.Operation.{lifted, no_number}
use Rattle.cq_prims_arithmetic.proofs.PlaceLemmas.{all_fit, all_in_range, all_made, lifted_numbers, length_results, push_more, result_at, whole_results, zero_where}
use Rattle.cq_prims_arithmetic.proofs.places.by_places.Goals as goal

pub number_at-number-requires : goal.number_at-number-requires
number_at-number-requires g c =
    let there : c.loop-i.i < length c.args.of.now.a.now = omega (arith, c.loop-i-test.true, c.len-len.ensures.len) in
    let at = result_at (lifted g.O.Operation.apply) c.args.of.now.a.now c.args.of.now.b.now c.loop-i.i c.args.of.now.same there ∙ ap₂ (lifted g.O.Operation.apply) (sym c.lend.ensures) (sym c.lend-in-loop-i.ensures) in
    subst ValueInRange at (all_in_range _ c.args.of.now.fits c.loop-i.i)

pub loop-i-preserved : goal.loop-i-preserved
loop-i-preserved g c =
    let results = zip2 (lifted g.O.Operation.apply) c.args.of.now.a.now c.args.of.now.b.now in
    let long : length results ≡ length c.args.of.now.a.now = length_results (lifted g.O.Operation.apply) c.args.of.now.a.now c.args.of.now.b.now c.args.of.now.same in
    let there : c.loop-i.i < length c.args.of.now.a.now = omega (arith, c.loop-i-test.true, c.len-len.ensures.len) in
    let inside : c.loop-i.i < length results = omega (arith, there, long) in
    let at = result_at (lifted g.O.Operation.apply) c.args.of.now.a.now c.args.of.now.b.now c.loop-i.i c.args.of.now.same there ∙ ap₂ (lifted g.O.Operation.apply) (sym c.lend.ensures) (sym c.lend-in-loop-i.ensures) in
    let kept : to_z w128 (of_z w128 c.number_at-number.result.0) ≡ c.number_at-number.result.0 = search (arith, ints, to_z-of_z) in (
      c.push_reserved.ensures.items ∙ push_more addend c.loop-i.values.items results c.loop-i.i _ c.loop-i.invariant.0 inside (kept ∙ c.number_at-number.ensures.number ∙ ap addend (sym at)),
      c.push.ensures ∙ push_more no_number c.loop-i.nulls results c.loop-i.i _ c.loop-i.invariant.1 inside (c.number_at-number.ensures.null ∙ ap no_number (sym at)),
      omega (arith, c.push_reserved.ensures.len, c.push_reserved.ensures.capacity, c.loop-i.invariant.2, there),
    )

pub new-requires-clause-zero : goal.new-requires-clause-zero
new-requires-clause-zero g c =
    let results = zip2 (lifted g.O.Operation.apply) c.args.of.now.a.now c.args.of.now.b.now in
    rw (c.loop-i.invariant.0, c.loop-i.invariant.1) (zero_where (take c.loop-i.i results))

pub new-requires-clause-fit : goal.new-requires-clause-fit
new-requires-clause-fit g c =
    let whole = whole_results (lifted g.O.Operation.apply) c.args.of.now.a.now c.args.of.now.b.now c.args.of.now.same c.loop-i.i (omega (arith, c.loop-i-test.false, c.len-len.ensures.len)) in
    rw (c.loop-i.invariant.0, whole) (all_fit _ (all_in_range _ c.args.of.now.fits))

pub returns : goal.returns
returns g c =
    let whole = whole_results (lifted g.O.Operation.apply) c.args.of.now.a.now c.args.of.now.b.now c.args.of.now.same c.loop-i.i (omega (arith, c.loop-i-test.false, c.len-len.ensures.len)) in
    c.new-2.ensures ∙ c.new.ensures ∙ all_made _ c.loop-i.i c.loop-i.values.items c.loop-i.nulls whole c.loop-i.invariant.0 c.loop-i.invariant.1 (lifted_numbers g.O.Operation.apply c.args.of.now.a.now c.args.of.now.b.now)
