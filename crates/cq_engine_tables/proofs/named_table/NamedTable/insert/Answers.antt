use Rattle.cq_engine_tables.proofs.Held.{lengths-inserted, named-inserted}
use Rattle.cq_engine_tables.proofs.named_table.NamedTable.insert.Goals as goal

pub returns-clause-ok : goal.returns-clause-ok
returns-clause-ok c =
    let t = c.self.inside in
    let limited = c.limit.ensures in
    rw (← c.self.view_is)
    (named-inserted t.number t.name t.stored c.append.new.self c.args.max_rows c.args.rows c.append.result (rw limited at c.append.ensures.ok) (rw limited at c.append.ensures.bag))

pub returns-clause-lengths : goal.returns-clause-lengths
returns-clause-lengths c = rw (← c.self.view_is) (lengths-inserted c.self.inside.number c.self.inside.name c.self.inside.stored c.append.new.self c.args.max_rows c.args.rows c.append.result (rw c.limit.ensures at c.append.ensures.ok))
