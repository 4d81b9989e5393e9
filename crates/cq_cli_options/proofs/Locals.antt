-- No argument of the command line is global.
use Rattle.std.proofs.Common.{◌≡◌, true, false, not, is_some, ap, ◌∙◌}
use Rattle.clap.proofs.SimpleLemmas.{is_false, plain_fields}
use Rattle.clap.proofs.WalkLemmas.{both}
use Rattle.clap.specs.Walk.{is_empty, is_simple_arg}
use Rattle.clap.specs.Words.{App, Rule, app_of, rule_of}
use Rattle.clap.specs.declared.builder.arg.Arg.{Arg}
use Rattle.clap.specs.declared.builder.command.Command.{Command}
use Rattle.clap.specs.declared.builder.command.Command.TheViews.{out-Command}

-- the last of the settings that a simple argument has not
simple_is_local : (a : Arg) → is_simple_arg a ≡ true → a.global ≡ false
simple_is_local a simple =
    let overrides = both (is_empty a.overrides.items) _ simple in
    let defaults = both (is_empty a.default_vals_ifs.items) _ overrides.1 in
    let groups = both (is_empty a.groups.items) _ defaults.1 in
    let delimiter = both (not (is_some a.val_delim)) _ groups.1 in
    let terminator = both (not (is_some a.terminator)) _ delimiter.1 in
    let hyphens = both (not a.allow_hyphen_values) _ terminator.1 in
    let negatives = both (not a.allow_negative_numbers) _ hyphens.1 in
    let equals = both (not a.require_equals) _ negatives.1 in
    is_false a.global (both (not a.last) _ equals.1).1

-- an argument by a simple rule is not global
pub arg_is_local : (a : Arg) (r : Rule) → rule_of a ≡ r → r.is_simple ≡ true → a.global ≡ false
arg_is_local a r is simple = simple_is_local a (ap (λ (x : Rule). x.is_simple) is ∙ simple)

-- a command of a plain shape has no global argument
pub command_is_local : (c : Command) (a : App) → app_of c ≡ a → a.top.is_plain ≡ true → (out-Command c).has_globals ≡ false
command_is_local c a is plain = (plain_fields c (ap (λ (x : App). x.top.is_plain) is ∙ plain)).globals
