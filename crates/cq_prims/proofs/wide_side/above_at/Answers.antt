use Rattle.std.proofs.Common.{◌≡◌, ◌∙◌, ◌+ℤ◌, ap, ap₂, arith, of_z, pos, sym, to_z, to_z-of_z, w64, ℕ, ℤ}
use Rattle.std.proofs.lemmas.Int.{ints}
use Rattle.std.specs.Int.{w128}
use Rattle.cq_vectors_stored.specs.Offsets.{offsets_in}
use Rattle.cq_prims.proofs.Shown.{above-at}
use Rattle.cq_prims.proofs.wide_side.above_at.Goals as goal

pub returns : goal.returns
returns c =
    let base : to_z w64 (of_z w64 c.args.base) ≡ c.args.base = search (arith, ints, to_z-of_z) in
    let left : to_z w128 (of_z w128 c.from.result) ≡ c.from.result = search (arith, ints, to_z-of_z) in
    let right : to_z w128 (of_z w128 c.from-2.result) ≡ c.from-2.result = search (arith, ints, to_z-of_z) in
    let whole : to_z w128 (of_z w128 (to_z w128 (of_z w128 c.from.result) +ℤ to_z w128 (of_z w128 c.from-2.result))) ≡ to_z w128 (of_z w128 c.from.result) +ℤ to_z w128 (of_z w128 c.from-2.result) = search (arith, ints, to_z-of_z) in
    whole ∙ ap₂ (λ (a b : ℤ). a +ℤ b) (left ∙ c.from.ensures ∙ base) (right ∙ c.from-2.ensures ∙ ap (λ (k : ℕ). pos k) c.at.ensures)
    ∙ sym (above-at c.args.base (offsets_in c.args.offsets.now) c.args.place c.requires)
