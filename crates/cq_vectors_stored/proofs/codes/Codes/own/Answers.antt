use Rattle.std.proofs.Common.{List, ℕ, subst, sym}
use Rattle.cq_vectors_stored.specs.FlaggedOffsets.{offset_flags}
use Rattle.cq_vectors_stored.specs.LentColumns.{AreEntries}
use Rattle.cq_vectors_stored.specs.Offsets.{own_offsets_in}
use Rattle.cq_vectors_stored.proofs.LentLemmas.{keeps_entries}
use Rattle.cq_vectors_stored.proofs.codes.Codes.own.Goals as goal

pub invariant_of-result : goal.invariant_of-result
invariant_of-result c =
    let entries = c.args.entries.now in
    let codes = own_offsets_in c.args.codes in
    let made = c.in_ok-codes.ensures in
    subst (λ (all : List ℕ). AreEntries entries all (offset_flags c.in_ok-codes.codes)) (sym made.offsets)
    (subst (AreEntries entries codes) (sym made.flags) (keeps_entries entries codes c.args.nulls c.requires.same c.requires.few c.requires.clear, c.requires.known))
