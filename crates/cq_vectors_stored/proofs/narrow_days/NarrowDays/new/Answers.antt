use Rattle.std.proofs.Common.{ℤ, subst, sym, to_z-of_z}
use Rattle.cq_vectors_stored.specs.LentColumns.{AreDaysAbove}
use Rattle.cq_vectors_stored.specs.Offsets.{offsets_in}
use Rattle.cq_vectors_stored.proofs.LentLemmas.{keeps_days_above}
use Rattle.cq_vectors_stored.proofs.narrow_days.NarrowDays.new.Goals as goal

pub invariant_of-result : goal.invariant_of-result
invariant_of-result c =
    let offsets = offsets_in c.args.offsets in
    let flags = c.args.nulls.now in
    subst (λ (base : ℤ). AreDaysAbove base offsets flags) (sym (to_z-of_z c.ranges.base))
    (keeps_days_above c.args.base offsets flags c.requires.same c.requires.few c.requires.clear, c.requires.fit)
