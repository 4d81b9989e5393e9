use Rattle.std.specs.Int.{w128}
use Rattle.std.proofs.lemmas.Int.{to_z-of_z}
use Rattle.cq_deltas.proofs.group.Group.add.Goals as goal

pub add_all-requires-clause-holds : goal.add_all-requires-clause-holds
add_all-requires-clause-holds c = rw (to_z-of_z w128 c.args.weight c.ranges.weight, c.deref_mut.ensures.value) c.requires.holds.kept
