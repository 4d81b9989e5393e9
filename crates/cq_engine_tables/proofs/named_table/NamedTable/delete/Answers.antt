use Rattle.std.proofs.Common.{[]}
use Rattle.cq_engine_tables.proofs.Held.{lengths-deleted, named-exchanged}
use Rattle.cq_engine_tables.proofs.named_table.NamedTable.delete.Goals as goal

pub returns-clause-left : goal.returns-clause-left
returns-clause-left c =
    let t = c.self.inside in
    rw (← c.self.view_is) (named-exchanged t.number t.name t.stored c.delete.new.self c.args.found.now [] c.delete.ensures.marks c.delete.ensures.left)

pub returns-clause-lengths : goal.returns-clause-lengths
returns-clause-lengths c =
    let t = c.self.inside in
    rw (← c.self.view_is) (lengths-deleted t.number t.name t.stored c.delete.new.self c.args.found.now c.delete.ensures.marks)
