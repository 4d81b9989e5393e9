use Rattle.cq_vectors_stored.specs.Offsets.{offsets_in}
use Rattle.cq_vectors_stored.proofs.LentLemmas.{keeps_entries}
use Rattle.cq_vectors_stored.proofs.codes.Codes.new.Goals as goal

pub invariant_of-result : goal.invariant_of-result
invariant_of-result c = (keeps_entries c.args.entries.now (offsets_in c.args.codes) c.args.nulls.now c.requires.same c.requires.few c.requires.clear, c.requires.known)
