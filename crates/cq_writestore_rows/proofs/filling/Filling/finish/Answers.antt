use Rattle.std.proofs.Common.{rules}
use Rattle.cq_writestore_rows.proofs.Ended.{filling-fresh}
use Rattle.cq_writestore_rows.proofs.filling.Filling.finish.Goals as goal

pub new-requires : goal.new-requires
new-requires c = search (rules, filling-fresh _ _ _ _ _ c.self.invariant)
