use Rattle.std.proofs.Common.{◌≡◌, ◌∙◌, ap, arith, of_z, subst, sym, to_z, to_z-of_z, true, w32, w64, List, ℤ}
use Rattle.std.proofs.lemmas.Int.{ints}
use Rattle.cq_vectors_stored.specs.Offsets.{offsets_in}
use Rattle.cq_prims.specs.Numbers.{ShowsNumbers, above}
use Rattle.cq_prims.proofs.Shown.{above_shows}
use Rattle.cq_prims.proofs.wide_side.WideSide.of_narrow_days.Goals as goal

pub returns : goal.returns
returns c =
    let parts = c.parts-base in
    let offsets = offsets_in parts.result.1 in
    let days = c.args.days.now in
    let day : to_z w32 (of_z w32 c.parts-base.result.0) ≡ c.parts-base.result.0 = search (arith, ints, to_z-of_z) in
    let wide : to_z w64 (of_z w64 c.from.result) ≡ c.from.result = search (arith, ints, to_z-of_z) in
    subst (λ (ns : List ℤ). ShowsNumbers true ns days) (sym (c.above.ensures ∙ ap (λ (b : ℤ). above b offsets) (wide ∙ c.from.ensures ∙ day))) (above_shows true parts.result.0 offsets days parts.ensures.long parts.ensures.whole)
