use Rattle.std.proofs.Common.{◌≡◌, ◌∙◌, ap, ap₂, arith, length, of_z, replicate, sym, to_z, to_z-of_z, true, w32, w64, Bool, List, ℤ}
use Rattle.std.proofs.lemmas.Int.{ints}
use Rattle.std.specs.Int.{w128}
use lib.Lanes.{zip2}
use Rattle.cq_values.specs.declared.value.Value.TheVariants.{Day}
use Rattle.cq_vectors_stored.specs.LentColumns.{day_above}
use Rattle.cq_vectors_stored.specs.Offsets.{offsets_in}
use Rattle.cq_prims.proofs.narrow_side.NarrowSide.of_days.Goals as goal

pub returns : goal.returns
returns c ws is =
    let days = c.args.days.now in
    let offsets = offsets_in c.parts-base.result.1 in
    let day : to_z w32 (of_z w32 c.parts-base.result.0) ≡ c.parts-base.result.0 = search (arith, ints, to_z-of_z) in
    let wide : to_z w64 (of_z w64 c.from.result) ≡ c.from.result = search (arith, ints, to_z-of_z) in
    let other : to_z w32 (of_z w32 c.args.value) ≡ c.args.value = search (arith, ints, to_z-of_z) in
    let wider : to_z w128 (of_z w128 c.from-2.result) ≡ c.from-2.result = search (arith, ints, to_z-of_z) in
    let base = wide ∙ c.from.ensures ∙ day in
    let value = wider ∙ c.from-2.ensures ∙ other in
    record {
      days = true;
      column = c.parts-base.ensures.whole ∙ ap₂ (λ (b : ℤ) (fs : List Bool). zip2 (day_above b) offsets fs) (sym base) (sym c.nulls.ensures);
      constant = is ∙ ap (λ (v : ℤ). replicate (length days) (Day v)) (sym value);
    }
