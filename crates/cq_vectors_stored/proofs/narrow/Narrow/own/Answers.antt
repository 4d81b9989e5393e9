use Rattle.std.proofs.Common.{List, ℕ, ℤ, subst, sym, to_z-of_z}
use Rattle.cq_vectors_stored.specs.FlaggedOffsets.{flagged_offsets, offset_flags}
use Rattle.cq_vectors_stored.specs.LentColumns.{AreAbove}
use Rattle.cq_vectors_stored.specs.Offsets.{own_offsets_in}
use Rattle.cq_vectors_stored.proofs.LentLemmas.{keeps_above}
use Rattle.cq_vectors_stored.proofs.narrow.Narrow.own.Goals as goal

pub invariant_of-result : goal.invariant_of-result
invariant_of-result c =
    let base = c.args.base in
    let offsets = own_offsets_in c.args.offsets in
    let made = c.in_ok-offsets.ensures in
    let above : AreAbove base offsets c.args.nulls = (keeps_above base offsets c.args.nulls c.requires.same c.requires.few c.requires.clear, c.requires.fit) in
    let all = flagged_offsets c.in_ok-offsets.offsets in
    let flags = offset_flags c.in_ok-offsets.offsets in
    subst (λ (b : ℤ). AreAbove b all flags) (sym (to_z-of_z c.ranges.base))
    (subst (λ (xs : List ℕ). AreAbove base xs flags) (sym made.offsets) (subst (AreAbove base offsets) (sym made.flags) above))
