use Rattle.cq_cli.specs.declared.endings.RunFault.TheVariants.{Output}
use Rattle.cq_cli.proofs.Runs.{flush_fails}
use Rattle.cq_cli.proofs.running.run.Goals as goal

-- the texts of all outcomes were put before the flush failed
pub returns-in-Err-clause-ran : goal.returns-in-Err-clause-ran
returns-in-Err-clause-ran g c = flush_fails _ _ _ _ _ _ _ _ _ _ _ c.in_ok-status.status c.in_ok-status.ensures.ran c.in-Err.ensures.kept Output c.in-Err.ensures.failed
