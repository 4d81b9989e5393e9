use Rattle.std.proofs.Common.{◌≡◌, FitsSigned, to_z, of_z, [], ◌∷◌, ◌++◌, sym, ap₂, subst, ◌∙◌, arith, pos, get_or}
use Rattle.std.specs.Int.{w128}
use lib.Lanes.{zip2}
use Rattle.std.proofs.lemmas.List.{take_all}
use Rattle.std.proofs.lemmas.Simd.{length-zip2}
use Rattle.std.proofs.lemmas.Int.{ints, to_z-of_z}
use Rattle.cq_prims_arithmetic.proofs.ColumnLemmas.{number_at, results_more}
use Rattle.cq_prims_arithmetic.proofs.wide.wide_results.Goals as goal

pub in_128_bits-requires : goal.in_128_bits-requires
in_128_bits-requires g c =
    let ms = g.A.WideSide.numbers c.args.a.now in
    let ns = g.B.WideSide.numbers c.args.b.now in
    let left : to_z w128 (of_z w128 c.at.result) ≡ get_or ms c.loop-i.i (pos 0) = search (arith, ints, to_z-of_z, c.at.ensures) in
    let right : to_z w128 (of_z w128 c.at-in-loop-i.result) ≡ get_or ns c.loop-i.i (pos 0) = search (arith, ints, to_z-of_z, c.at-in-loop-i.ensures) in
    let at = number_at g.O.Operation.apply ms ns c.loop-i.i c.args.len c.requires.left c.requires.right c.loop-i-test.true in
    rw (left, right) (subst (FitsSigned w128) at (c.requires.fits c.loop-i.i))

pub loop-i-preserved : goal.loop-i-preserved
loop-i-preserved g c =
    let f = g.O.Operation.apply in
    let ms = g.A.WideSide.numbers c.args.a.now in
    let ns = g.B.WideSide.numbers c.args.b.now in
    let left : to_z w128 (of_z w128 c.at.result) ≡ get_or ms c.loop-i.i (pos 0) = search (arith, ints, to_z-of_z, c.at.ensures) in
    let right : to_z w128 (of_z w128 c.at-in-loop-i.result) ≡ get_or ns c.loop-i.i (pos 0) = search (arith, ints, to_z-of_z, c.at-in-loop-i.ensures) in
    let kept : to_z w128 (of_z w128 c.in_128_bits.result) ≡ c.in_128_bits.result = search (arith, ints, to_z-of_z) in
    let made = kept ∙ c.in_128_bits.ensures ∙ ap₂ g.O.Operation.apply left right in (
      c.push_reserved.ensures.items ∙ ap₂ (λ l x. l ++ x ∷ []) c.loop-i.invariant.0 made ∙ sym (results_more g.O.Operation.apply ms ns c.loop-i.i c.args.len c.requires.left c.requires.right c.loop-i-test.true),
      omega (arith, c.push_reserved.ensures.len, c.push_reserved.ensures.capacity, c.loop-i.invariant.1, c.loop-i-test.true),
    )

pub returns : goal.returns
returns g c =
    let ms = g.A.WideSide.numbers c.args.a.now in
    let ns = g.B.WideSide.numbers c.args.b.now in
    c.loop-i.invariant.0 ∙ take_all c.loop-i.i (zip2 g.O.Operation.apply ms ns) (omega (arith, c.loop-i-test.false, c.requires.left, length-zip2 g.O.Operation.apply ms ns (c.requires.left ∙ sym c.requires.right)))
