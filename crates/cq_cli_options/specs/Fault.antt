-- Why a command line asks for no run, and how the program ends then.
use Rattle.std.specs.Prelude.{◌≡◌, ◌⊎◌, ℕ, true, List, [], Result, Ok, Err, string_bytes}
use Rattle.std.specs.Borrow.{Bor}
use Rattle.clap.specs.Words.{IsAmong, Kinds, Text, fault_of, kind_of, takes}
use Rattle.clap.specs.declared.error.Error.{Error}
use Rattle.clap.specs.declared.error.kind.ErrorKind.{ErrorKind}
use Rattle.clap.specs.declared.error.kind.ErrorKind.TheVariants as kinds
use Rattle.cq_cli_options.specs.Limit.{IsLimit, limit_refusal}
use Rattle.cq_cli_options.specs.Line.{colview, limit_in, texts}
use Rattle.cq_cli_options.specs.declared.fault.LineFault.{LineFault}
use Rattle.cq_cli_options.specs.declared.fault.LineFault.TheVariants.{Help, Memory, Refused}
use Rattle.cq_cli_options.specs.declared.options.Options.{Options}

-- clap's error is that memory was wanting
abbrev pub IsMemory : Error → Type 0
IsMemory error = kind_of error ≡ kinds.OutOfMemory

-- where the command takes the words, the error is that memory was wanting
abbrev pub IsMemoryIfTaken : List (Bor Text) → Error → Type 0
IsMemoryIfTaken words error = takes colview (texts words) ≡ true → IsMemory error

-- the words ask for help or the version
abbrev pub IsRequest : ErrorKind → Type 0
IsRequest kind = (kind ≡ kinds.DisplayHelp) ⊎ (kind ≡ kinds.DisplayVersion)

-- a text to show where one was asked for, a refusal for other kinds; memory may be wanting
abbrev pub IsFaultOf : ErrorKind → LineFault → Type 0
IsFaultOf kind Memory = Unit {0}
IsFaultOf kind (Help text) = IsRequest kind
IsFaultOf kind (Refused text) = ¬ IsRequest kind × ¬ (kind ≡ kinds.OutOfMemory)

-- it is the fault of one of these kinds
abbrev pub IsAmongFaults : Kinds → LineFault → Type 0
IsAmongFaults found fault = (kind : ErrorKind) × IsAmong kind found × IsFaultOf kind fault

-- the refusal of a text that is no limit; memory may be wanting
abbrev pub IsLimitFault : Text → LineFault → Type 0
IsLimitFault text Memory = Unit {0}
IsLimitFault text (Help why) = ⊥
IsLimitFault text (Refused why) = ¬ IsLimit text × (string_bytes why ≡ limit_refusal text)

-- the words have a fault of clap's, or else N has one
abbrev pub IsFaultIn : List Text → LineFault → Type 0
IsFaultIn words fault = IsAmongFaults (fault_of colview words) fault
    ⊎ ((fault_of colview words ≡ []) × IsLimitFault (limit_in words) fault)

-- a run where clap finds no fault in the words, and else a fault in them; memory may be wanting
abbrev pub AnswersBy : List Text → Result Options LineFault → Type 0
AnswersBy words (Ok options) = fault_of colview words ≡ []
AnswersBy words (Err Memory) = Unit {0}
AnswersBy words (Err fault) = IsFaultIn words fault

-- the exit status of the program after a fault of its command line
abbrev pub fault_exit : LineFault → ℕ
fault_exit (Help text) = 0
fault_exit (Refused text) = 2
fault_exit Memory = 3
