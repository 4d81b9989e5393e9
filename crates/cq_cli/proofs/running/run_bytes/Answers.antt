use Rattle.cq_cli.proofs.Runs.{refuses_bytes}
use Rattle.cq_cli.proofs.running.run_bytes.Goals as goal

pub returns-in-Err-clause-ran : goal.returns-in-Err-clause-ran
returns-in-Err-clause-ran g c =
    refuses_bytes _ c.args.limits.max_rows c.args.script.now _ _ _ _ _ c.print.result c.in-Err.ensures.cases.0 c.print.ensures.written c.print.ensures.status
