use Rattle.std.proofs.Common.{◌≡◌, IfErr, map, true, subst}
use Rattle.clap.specs.Words.{App, kind_of, takes}
use Rattle.clap.specs.declared.error.kind.ErrorKind.TheVariants.{OutOfMemory}
use Rattle.cq_cli_options.proofs.options.matches_from.Goals as goal

pub returns-clause-memory : goal.returns-clause-memory
returns-clause-memory c =
    subst (λ (a : App). IfErr c.try_get_matches_from.result (λ error. takes a (map (λ s. s.now) c.args.words.now) ≡ true → kind_of error ≡ OutOfMemory)) c.in_ok-command.ensures c.try_get_matches_from.ensures.passes
