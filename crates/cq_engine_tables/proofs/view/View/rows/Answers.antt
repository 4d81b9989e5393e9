use Rattle.cq_engine_tables.proofs.view.View.rows.Goals as goal

pub returns-clause-fault : goal.returns-clause-fault
returns-clause-fault c = rw (← c.self.view_is) c.rows.ensures.fault
