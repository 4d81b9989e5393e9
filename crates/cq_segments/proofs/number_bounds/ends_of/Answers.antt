use Rattle.std.proofs.Common.{get_or, pos, rules, w64, ℤ}
use mir.Val.{SFits, of_z, to_z}
use Rattle.std.proofs.lemmas.Int.{to_z-of_z}
use Rattle.cq_segments.proofs.NumberEnds.{next_step}
use Rattle.cq_segments.proofs.number_bounds.ends_of.Goals as goal

pub loop-i-preserved : goal.loop-i-preserved
loop-i-preserved c =
    let numbers = c.args.numbers.now in
    let i = c.loop-i.i in
    let number : ℤ = get_or numbers i (pos 0) in
    let low = c.lesser-least.result in
    let high = c.greater-greatest.result in
    let fits : SFits w64 number = search rules in
    let low_fits : SFits w64 low = search rules in
    let high_fits : SFits w64 high = search rules in
    let step = next_step c.args.kind numbers i (to_z w64 (of_z w64 number)) (to_z w64 c.loop-i.least-bits) (to_z w64 c.loop-i.greatest-bits) low high (to_z w64 (of_z w64 low)) (to_z w64 (of_z w64 high))
    c.loop-i-test.true (to_z-of_z w64 number fits) c.requires c.loop-i.invariant.least c.loop-i.invariant.greatest c.loop-i.invariant.ends
    c.lesser-least.ensures.number c.lesser-least.ensures.day c.greater-greatest.ensures.number c.greater-greatest.ensures.day (to_z-of_z w64 low low_fits) (to_z-of_z w64 high high_fits) in
    record { least = step.of_low; greatest = step.of_high; ends = step.ends }
