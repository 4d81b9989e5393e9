use Rattle.std.proofs.Common.{◌≡◌, ◌∙◌, ap, ap₂, arith, false, length, of_z, replicate, sym, to_z, to_z-of_z, w64, Bool, List, ℤ}
use Rattle.std.proofs.lemmas.Int.{ints}
use Rattle.std.specs.Int.{w128}
use lib.Lanes.{zip2}
use Rattle.cq_values.specs.declared.value.Value.TheVariants.{Number}
use Rattle.cq_vectors_stored.specs.LentColumns.{number_above}
use Rattle.cq_vectors_stored.specs.Offsets.{offsets_in}
use Rattle.cq_prims.proofs.narrow_side.NarrowSide.of_numbers.Goals as goal

pub returns : goal.returns
returns c ws is =
    let offsets = offsets_in c.parts-base.result.1 in
    let base : to_z w64 (of_z w64 c.parts-base.result.0) ≡ c.parts-base.result.0 = search (arith, ints, to_z-of_z) in
    let value : to_z w128 (of_z w128 c.args.value) ≡ c.args.value = search (arith, ints, to_z-of_z) in
    record {
      days = false;
      column = c.parts-base.ensures.whole ∙ ap₂ (λ (b : ℤ) (fs : List Bool). zip2 (number_above b) offsets fs) (sym base) (sym c.nulls.ensures);
      constant = is ∙ ap (λ (v : ℤ). replicate (length c.args.numbers.now) (Number v)) (sym value);
    }
