use Rattle.cq_engine_tables.proofs.Held.{lengths-replaced, named-replaced}
use Rattle.cq_engine_tables.proofs.named_table.NamedTable.replace.Goals as goal

pub returns-clause-ok : goal.returns-clause-ok
returns-clause-ok c =
    let t = c.self.inside in
    rw (← c.self.view_is) (named-replaced t.number t.name t.stored c.replace.new.self c.args.found.now c.args.images.items c.replace.result c.replace.ensures.ok c.replace.ensures.left)

pub returns-clause-lengths : goal.returns-clause-lengths
returns-clause-lengths c =
    let t = c.self.inside in
    rw (← c.self.view_is) (lengths-replaced t.number t.name t.stored c.replace.new.self c.args.found.now c.args.images.items c.replace.result c.replace.ensures.ok)
