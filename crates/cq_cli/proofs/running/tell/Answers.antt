use Rattle.cq_cli.proofs.running.tell.Goals as goal

-- what is shown is what was written
pub returns-clause-told : goal.returns-clause-told
returns-clause-told g c = record { printed = c.shown-printed.result; shows = c.shown-printed.ensures; written = c.print-told.ensures.written; told = c.print-told.ensures.status }
