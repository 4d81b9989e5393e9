use Rattle.cq_cli_options.proofs.Lines.{answers_by}
use Rattle.cq_cli_options.specs.Line.{texts}
use Rattle.cq_cli_options.proofs.options.options_of.Goals as goal

pub returns-in_ok-told-in-Err-clause-fault : goal.returns-in_ok-told-in-Err-clause-fault
returns-in_ok-told-in-Err-clause-fault c = answers_by (texts c.args.words.now) c.in-Err.error c.in_ok-told-in-Err.field-0 c.in-Err.ensures.fault c.in_ok-told-in-Err.ensures
