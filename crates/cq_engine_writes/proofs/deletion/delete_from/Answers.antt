use Rattle.std.proofs.Common.{◌∙◌, ℕ, subst, sym}
use Rattle.cq_engine_writes.specs.Changing.{TellsAtMost}
use Rattle.cq_engine_writes.proofs.Written.{left_alone}
use Rattle.cq_engine_writes.proofs.deletion.delete_from.Goals as goal

pub change_without-requires-clause-there : goal.change_without-requires-clause-there
change_without-requires-clause-there c = c.in_ok-found.ensures.there

pub delete-requires : goal.delete-requires
delete-requires c = c.in_ok-found.ensures.live

pub returns-clause-left : goal.returns-clause-left
returns-clause-left c = left_alone c.args.table.now.is c.delete.new.self.is c.args.condition.now (c.delete.ensures.left c.args.condition.now c.in_ok-found.ensures)

pub returns-clause-count : goal.returns-clause-count
returns-clause-count c = c.len.ensures ∙ c.in_ok-found.ensures.count

pub returns-clause-change : goal.returns-clause-change
returns-clause-change c = c.in_ok-change.ensures.told c.args.condition.now c.in_ok-found.ensures

pub returns-clause-most : goal.returns-clause-most
returns-clause-most c = subst (λ (n : ℕ). TellsAtMost n c.in_ok-change.change) (sym c.len.ensures) c.in_ok-change.ensures.most
