use Rattle.std.proofs.Common.{◌≡◌, ◌∙◌, ◌<◌, ◌+ℤ◌, [], ◌∷◌, ◌++◌, ap, ap₂, arith, get_or, length, map, of_z, pos, subst, sym, take, to_z, to_z-of_z, w64, FitsSigned, List, ℤ}
use Rattle.std.proofs.lemmas.Int.{ints}
use Rattle.std.proofs.lemmas.List.{take_all}
use Rattle.cq_vectors_stored.specs.Offsets.{offsets_in}
use Rattle.cq_prims_arithmetic.specs.Sides.{above}
use Rattle.cq_prims_arithmetic.proofs.WidenedLemmas.{above_more}
use Rattle.cq_prims_arithmetic.proofs.widened.numbers_above.Goals as goal

pub loop-i-preserved : goal.loop-i-preserved
loop-i-preserved c =
    let i = c.loop-i.i in
    let base : ℤ = to_z w64 (of_z w64 c.args.base) in
    let offsets = offsets_in c.args.offsets.now in
    let one = get_or offsets i 0 in
    let lt : i < length offsets = omega (arith, c.loop-i-test.true, c.len-len.ensures) in
    let kept : to_z w64 (of_z w64 c.from.result) ≡ c.from.result = search (arith, ints, to_z-of_z) in
    let offset : to_z w64 (of_z w64 c.from.result) ≡ pos one = kept ∙ c.from.ensures ∙ ap pos c.at.ensures in
    let fits : FitsSigned w64 (above base one) = subst (λ (b : ℤ). FitsSigned w64 (above b one)) (sym (to_z-of_z c.ranges.base)) (c.requires i) in
    let number = ap (λ (x : ℤ). to_z w64 (of_z w64 (base +ℤ x))) offset ∙ to_z-of_z fits in (
      c.push_reserved.ensures.items ∙ ap₂ (λ (l : List ℤ) (x : ℤ). l ++ x ∷ []) c.loop-i.invariant.0 number ∙ above_more base offsets i lt,
      omega (arith, c.push_reserved.ensures.len, c.push_reserved.ensures.capacity, c.loop-i.invariant.1, c.loop-i-test.true),
    )

pub returns : goal.returns
returns c =
    let offsets = offsets_in c.args.offsets.now in
    c.loop-i.invariant.0 ∙ ap (λ (b : ℤ). map (above b) (take c.loop-i.i offsets)) (to_z-of_z c.ranges.base)
    ∙ ap (map (above c.args.base)) (take_all c.loop-i.i offsets (omega (arith, c.loop-i-test.false, c.len-len.ensures)))
