use Rattle.cq_engine_tables.proofs.named_table.NamedTable.images.Goals as goal

pub returns-clause-checked : goal.returns-clause-checked
returns-clause-checked c = rw (← c.self.view_is) (λ condition chosen. c.images.ensures.found condition chosen.found)

pub returns-clause-images : goal.returns-clause-images
returns-clause-images c = rw (← c.self.view_is) c.images.ensures.images
