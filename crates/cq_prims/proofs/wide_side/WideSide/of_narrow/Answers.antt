use Rattle.std.proofs.Common.{◌≡◌, ◌∙◌, ap, arith, false, of_z, subst, sym, to_z, to_z-of_z, w64, List, ℤ}
use Rattle.std.proofs.lemmas.Int.{ints}
use Rattle.cq_vectors_stored.specs.Offsets.{offsets_in}
use Rattle.cq_prims.specs.Numbers.{ShowsNumbers, above}
use Rattle.cq_prims.proofs.Shown.{above_shows}
use Rattle.cq_prims.proofs.wide_side.WideSide.of_narrow.Goals as goal

pub returns : goal.returns
returns c =
    let parts = c.parts-base in
    let offsets = offsets_in parts.result.1 in
    let base : to_z w64 (of_z w64 c.parts-base.result.0) ≡ c.parts-base.result.0 = search (arith, ints, to_z-of_z) in
    subst (λ (ns : List ℤ). ShowsNumbers false ns c.args.numbers.now) (sym (c.above.ensures ∙ ap (λ (b : ℤ). above b offsets) base)) (above_shows false parts.result.0 offsets c.args.numbers.now parts.ensures.long parts.ensures.whole)
