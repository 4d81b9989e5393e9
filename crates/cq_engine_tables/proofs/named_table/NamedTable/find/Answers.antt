use Rattle.cq_engine_tables.proofs.Held.{chosen-found}
use Rattle.cq_engine_tables.proofs.named_table.NamedTable.find.Goals as goal

pub returns : goal.returns
returns c =
    let t = c.self.inside in
    rw (← c.self.view_is)
    (chosen-found t.number t.name t.stored c.args.condition.now c.find.result c.find.ensures.found c.find.ensures.live c.find.ensures.there c.find.ensures.chosen c.find.ensures.count)
