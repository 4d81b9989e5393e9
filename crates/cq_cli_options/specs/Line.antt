-- The command line `colview run SCRIPT [--dir DIR] [--max-rows N]`.
use Rattle.std.specs.Prelude.{◌≡◌, ℕ, true, List, [], ◌∷◌, map, Option, Some, codes, unwrap_or, option_and_then}
use Rattle.std.specs.Borrow.{Bor}
use Rattle.clap.specs.Words.{App, Row, Rule, Text, first_of, new_app, new_rule, subcommand_of, subcommand_rows_of, takes, with_rule, with_subcommand}
use Rattle.clap.specs.declared.builder.value_parser.ValueParser.TheVariants.{NonEmptyString, Unsigned}
use Rattle.clap.specs.declared.parser.matches.ArgMatches.{ArgMatches}
use Rattle.cq_cli_options.specs.declared.options.Options.{Options}
use Rattle.cq_cli_options.specs.Limit.{IsLimit, IsLimitOf}

-- the positional SCRIPT, which has to be given and is not empty
abbrev pub script : Rule
script = record (new_rule (codes "SCRIPT")) { required = true; parser = Some NonEmptyString }

-- the option `--dir DIR`, not empty, and by default the folder that the program runs in
abbrev pub dir : Rule
dir = record (new_rule (codes "DIR")) {
  long = Some (codes "dir");
  defaults = codes "." ∷ [];
  parser = Some NonEmptyString;
}

-- the option `--max-rows N`, a number in range, and by default 16,777,216
abbrev pub max_rows : Rule
max_rows = record (new_rule (codes "N")) {
  long = Some (codes "max-rows");
  defaults = codes "16777216" ∷ [];
  parser = Some (Unsigned 1 1073741824);
}

-- the subcommand `run`
abbrev pub run : App
run = with_rule (with_rule (with_rule (new_app (codes "run")) script) dir) max_rows

-- the command, which has a version, and where a subcommand has to be given
abbrev pub required : App → App
required a = record a { top = record a.top { has_version = true; subcommand_required = true } }

-- the whole command line, in the words of clap
abbrev pub colview : App
colview = with_subcommand (required (new_app (codes "colview"))) run.top

-- the texts of the words
abbrev pub texts : List (Bor Text) → List Text
texts words = map (λ word. word.now) words

-- the subcommand that clap finds in the words, with what it takes
abbrev pub subcommand_in : List Text → Option (Text × List Row)
subcommand_in words = subcommand_of colview words

-- the matches are of the subcommand that clap finds in words that are lent
abbrev pub AreMatchesIn : List (Bor Text) → ArgMatches → Type 0
AreMatchesIn words matches = subcommand_rows_of matches ≡ subcommand_in (texts words)

-- the value of an id that a subcommand takes, empty where there is none
abbrev pub value_of_rows : Text → Option (Text × List Row) → Text
value_of_rows id entered = unwrap_or (option_and_then (λ found. first_of id found.1) entered) []

-- the word N that a subcommand takes
abbrev pub limit_of_rows : Option (Text × List Row) → Text
limit_of_rows = value_of_rows (codes "N")

-- SCRIPT as clap finds it in the words
abbrev pub script_in : List Text → Text
script_in words = value_of_rows (codes "SCRIPT") (subcommand_in words)

-- DIR as clap finds it in the words, given or by default
abbrev pub dir_in : List Text → Text
dir_in words = value_of_rows (codes "DIR") (subcommand_in words)

-- N as clap finds it in the words, given or by default
abbrev pub limit_in : List Text → Text
limit_in words = limit_of_rows (subcommand_in words)

-- N in words that are lent is a limit, and this is its number
abbrev pub IsLimitIn : List (Bor Text) → ℕ → Type 0
IsLimitIn words n = IsLimitOf (limit_in (texts words)) n

-- the command takes the words, and N is a limit
abbrev pub IsTaken : List Text → Type 0
IsTaken words = (takes colview words ≡ true) × IsLimit (limit_in words)

-- the options are the values that a subcommand takes, N as a number
pub record AreIn (entered : Option (Text × List Row)) (options : Options) : Type 0 where
  pub script : options.script ≡ value_of_rows (codes "SCRIPT") entered
  pub dir : options.dir ≡ value_of_rows (codes "DIR") entered
  pub max_rows : IsLimitOf (limit_of_rows entered) options.max_rows
