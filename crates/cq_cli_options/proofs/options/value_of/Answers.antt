use Rattle.std.proofs.Common.{refl}
use Rattle.clap.specs.Words.{found_of, subcommand_rows_of}
use Rattle.cq_cli_options.proofs.Lines.{value_found}
use Rattle.cq_cli_options.proofs.options.value_of.Goals as goal

pub returns-in-Some : goal.returns-in-Some
returns-in-Some c =
    rw c.unwrap_or.ensures (value_found c.args.id.now (subcommand_rows_of c.args.matches.now) (found_of c.in-Some.entered.now) c.get_str.result _ c.in-Some.ensures.rows c.get_str.ensures refl)
