use Rattle.std.proofs.Common.{rules}
use Rattle.cq_writestore_rows.proofs.Ended.{filling-length, filling-small}
use Rattle.cq_writestore_rows.proofs.filling.Filling.len.Goals as goal

pub overflow_mul-result : goal.overflow_mul-result
overflow_mul-result c = search (rules, filling-small _ _ _ _ _ c.self.invariant)

pub overflow_add-result : goal.overflow_add-result
overflow_add-result c = search (rules, filling-small _ _ _ _ _ c.self.invariant)

pub returns-clause-len : goal.returns-clause-len
returns-clause-len c = search (rules, filling-length _ _ _ _ _ c.self.invariant)

pub returns-clause-small : goal.returns-clause-small
returns-clause-small c = search (rules, filling-small _ _ _ _ _ c.self.invariant)
