use Rattle.std.proofs.Common.{ℤ, subst, sym, to_z-of_z}
use Rattle.cq_vectors_stored.specs.LentColumns.{AreAbove}
use Rattle.cq_vectors_stored.specs.Offsets.{offsets_in}
use Rattle.cq_vectors_stored.proofs.LentLemmas.{keeps_above}
use Rattle.cq_vectors_stored.proofs.narrow.Narrow.new.Goals as goal

pub invariant_of-result : goal.invariant_of-result
invariant_of-result c =
    let offsets = offsets_in c.args.offsets in
    let flags = c.args.nulls.now in
    subst (λ (base : ℤ). AreAbove base offsets flags) (sym (to_z-of_z c.ranges.base))
    (keeps_above c.args.base offsets flags c.requires.same c.requires.few c.requires.clear, c.requires.fit)
