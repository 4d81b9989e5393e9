use Rattle.std.proofs.Common.{rules}
use Rattle.cq_writestore_rows.proofs.WholeLists.{fresh-length, fresh-small}
use Rattle.cq_writestore_rows.proofs.new_rows.NewRows.len.Goals as goal

pub overflow_mul-result : goal.overflow_mul-result
overflow_mul-result c = search (rules, fresh-small _ _ c.self.invariant)

pub overflow_add-result : goal.overflow_add-result
overflow_add-result c = search (rules, fresh-small _ _ c.self.invariant)

pub returns-clause-len : goal.returns-clause-len
returns-clause-len c = search (rules, fresh-length _ _ c.self.invariant)

pub returns-clause-small : goal.returns-clause-small
returns-clause-small c = search (rules, fresh-small _ _ c.self.invariant)
