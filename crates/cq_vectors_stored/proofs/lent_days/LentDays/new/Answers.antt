use Rattle.cq_vectors_stored.proofs.ColumnLemmas.{keeps_days}
use Rattle.cq_vectors_stored.proofs.lent_days.LentDays.new.Goals as goal

pub invariant_of-result : goal.invariant_of-result
invariant_of-result c = (keeps_days c.args.values.now c.args.nulls.now c.requires.same c.requires.few c.requires.zero, c.requires.days)
