use Rattle.std.proofs.Common.{sym}
use Rattle.std.proofs.lemmas.Bool.{OnTrue_at}
use Rattle.cq_hash_groups_slots.proofs.Putting.{nulls-of_known}
use Rattle.cq_hash_groups_slots.proofs.counts.put_nulls.Goals as goal

pub returns-then-all_known : goal.returns-then-all_known
returns-then-all_known c = sym (nulls-of_known c.args.numbers.now c.args.values.now c.args.counts.now (OnTrue_at c.if-all_known.true c.all_known.ensures))
