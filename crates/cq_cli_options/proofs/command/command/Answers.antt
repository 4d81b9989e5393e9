use Rattle.std.proofs.Common.{ap, ap₂, ◌≡◌, ◌∙◌, codes, refl, true}
use Rattle.std.proofs.lemmas.Result.{IfOk-weaker}
use Rattle.clap.specs.Words.{App, app_of, new_app, with_subcommand}
use Rattle.clap.specs.Simple.{app_of_fields}
use Rattle.cq_cli_options.proofs.Locals.{command_is_local}
use Rattle.cq_cli_options.specs.Line.{required, run}
use Rattle.cq_cli_options.proofs.command.command.Goals as goal

-- the settings stand, and `run` joins as the one subcommand
pub returns : goal.returns
returns c =
    let run_is = c.in_ok-run.ensures in
    let named : app_of c.after_help.result ≡ new_app (codes "colview") = ap app_of_fields c.after_help.ensures ∙ ap app_of_fields c.about.ensures ∙ c.new.ensures.app in
    let versioned = c.version.ensures in
    let top_is : app_of c.subcommand_required.result ≡ required (new_app (codes "colview")) = ap app_of_fields c.subcommand_required.ensures ∙ ap (λ f. app_of_fields (record f { subcommand_required = true })) versioned ∙ ap required named in
    IfOk-weaker c.subcommand.result _ _ (λ command added. added.shape (command_is_local _ run run_is refl) ∙ ap₂ with_subcommand top_is (ap (λ (a : App). a.top) run_is)) c.subcommand.ensures
