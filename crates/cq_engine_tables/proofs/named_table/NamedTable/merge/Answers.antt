use Rattle.cq_engine_tables.proofs.Held.{lengths-merged, named-merged}
use Rattle.cq_engine_tables.proofs.named_table.NamedTable.merge.Goals as goal

pub returns-clause-same : goal.returns-clause-same
returns-clause-same c =
    let t = c.self.inside in
    rw (← c.self.view_is) (named-merged t.number t.name t.stored c.merge_step.new.self c.merge_step.result c.merge_step.ensures.ok c.merge_step.ensures.err c.merge_step.ensures.bag)

pub returns-clause-lengths : goal.returns-clause-lengths
returns-clause-lengths c = rw (← c.self.view_is) (lengths-merged c.self.inside.number c.self.inside.name c.self.inside.stored c.merge_step.new.self c.merge_step.result c.merge_step.ensures.counts)
