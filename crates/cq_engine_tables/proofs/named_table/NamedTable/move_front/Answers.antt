use Rattle.cq_engine_tables.proofs.Held.{lengths-moved, named-moved}
use Rattle.cq_engine_tables.proofs.named_table.NamedTable.move_front.Goals as goal

pub returns-clause-same : goal.returns-clause-same
returns-clause-same c =
    let t = c.self.inside in
    rw (← c.self.view_is) (named-moved t.number t.name t.stored c.move_step.new.self c.args.count c.move_step.result c.move_step.ensures.ok c.move_step.ensures.err c.move_step.ensures.bag)

pub returns-clause-lengths : goal.returns-clause-lengths
returns-clause-lengths c = rw (← c.self.view_is) (lengths-moved c.self.inside.number c.self.inside.name c.self.inside.stored c.move_step.new.self c.args.count c.move_step.result c.move_step.ensures.counts)
