use Rattle.std.proofs.Common.{ap, ap₂, ◌≡◌, ◌∙◌, codes, refl}
use Rattle.std.proofs.lemmas.Result.{IfOk-weaker}
use Rattle.clap.specs.Words.{app_of, new_app, with_rule}
use Rattle.clap.specs.Simple.{app_of_fields}
use Rattle.cq_cli_options.proofs.Locals.{arg_is_local}
use Rattle.cq_cli_options.specs.Line.{dir, max_rows, script}
use Rattle.cq_cli_options.proofs.command.run_command.Goals as goal

-- each argument in turn joins the rules of `run`
pub returns : goal.returns
returns c =
    let named : app_of c.after_help.result ≡ new_app (codes "run") = ap app_of_fields c.after_help.ensures ∙ ap app_of_fields c.about.ensures ∙ c.new.ensures.app in
    let first = c.in_ok-arg.ensures.shape (arg_is_local c.script_arg.result script c.script_arg.ensures refl) ∙ ap₂ with_rule named c.script_arg.ensures in
    let second = c.in_ok-arg-2.ensures.shape (arg_is_local c.dir_arg.result dir c.dir_arg.ensures refl) ∙ ap₂ with_rule first c.dir_arg.ensures in
    IfOk-weaker c.arg-3.result _ _ (λ command added. added.shape (arg_is_local c.max_rows_arg.result max_rows c.max_rows_arg.ensures refl) ∙ ap₂ with_rule second c.max_rows_arg.ensures) c.arg-3.ensures
