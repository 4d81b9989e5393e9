use Rattle.std.proofs.Common.{◌∙◌, ◌+ℤ◌, arith, get_or, pos, ℕ}
use Rattle.std.proofs.lemmas.Int.{ints}
use Rattle.std.proofs.lemmas.Bool.Decides.{Decides-int_eq}
use Rattle.std.specs.Ordering.{int_eq}
use Rattle.cq_model_bags.proofs.Totals.{by_test}
use Rattle.cq_vectors_stored.specs.Offsets.{offsets_in}
use Rattle.cq_prims_lanes.proofs.OffsetTests.{by_none}
use Rattle.cq_prims.proofs.narrow_side.NarrowSide.set_equal.Goals as goal

pub returns-then-self-base : goal.returns-then-self-base
returns-then-self-base c =
    let side = c.args.self.now in
    let offsets = offsets_in side.offsets in
    c.set_never.ensures
    ∙ by_none (λ (o : ℕ). int_eq (side.base +ℤ pos o) side.value) offsets side.nulls.now side.same (λ k. by_test (int_eq (side.base +ℤ pos (get_or offsets k 0)) side.value)
    (λ e. absurd (omega (arith, ints, (Decides-int_eq (side.base +ℤ pos (get_or offsets k 0)) side.value).0 e, c.if-self-base.true, c.from-base.ensures)))
    (λ e. e))
