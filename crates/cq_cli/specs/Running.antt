-- What a run of a script does.
use Rattle.std.specs.Prelude.{◌≡◌, ◌≤◌, ℕ, ◌+◌, Bool, true, false, if◌then◌else◌, List, ◌++◌, length, Option, Result, Ok, Err, IfOk}
use Rattle.std.specs.Io.KnownBytes.{Appends}
use Rattle.std.specs.List.{list_all}
use Rattle.cq_model_state.specs.State.{State}
use Rattle.cq_model_step.specs.declared.answer.Answer.{Answer}
use Rattle.cq_model_step.specs.declared.answer.Answer.TheVariants.{Rows}
use Rattle.cq_sql_language.specs.Pieces.{PieceOf}
use Rattle.cq_binder_rules.specs.Records.{Files}
use Rattle.cq_binder_rules.specs.declared.fault.Fault.{Fault}
use Rattle.cq_binder_rules.specs.declared.fault.Fault.TheVariants.{Memory}
use Rattle.cq_model_step.specs.Output.{HasOutcomes, Serves, output_of, source_failures}
use Rattle.cq_sql_tokens.specs.Piece.{piece_of}
use Rattle.cq_sql_tokens.specs.declared.pieces.Piece.{Piece}
use Rattle.cq_cli.specs.declared.endings.Status.{Status}
use Rattle.cq_cli.specs.declared.endings.Status.TheVariants.{AllAccepted, SomeRefused}
use Rattle.cq_cli.specs.declared.endings.RunFault.{RunFault}
use Rattle.cq_cli.specs.declared.endings.RunFault.TheVariants.{Output}
use Rattle.cq_cli.specs.declared.sink.Sink.{Ghosts as Sink}
use Rattle.cq_binder_rules.specs.declared.sources.Sources.{Ghosts as Sources}
use Rattle.cq_cli.specs.Writing.{Wrote, flushes_after}
use Rattle.cq_engine.specs.Held.{Held}
use Rattle.cq_engine.specs.declared.limits.Limits.{Limits}

-- whether the outcome of a statement is an answer
abbrev pub is_accepted : Result Answer Fault → Bool
is_accepted (Ok a) = true
is_accepted (Err f) = false

-- all were accepted exactly where every outcome is an answer
abbrev pub status_of : List (Result Answer Fault) → Status
status_of outcomes = if list_all is_accepted outcomes then AllAccepted else SomeRefused

-- the status of a script by those of two parts
abbrev pub both : Status → Status → Status
both AllAccepted other = other
both SomeRefused other = SomeRefused

-- an engine answered a piece of a script, over these files
abbrev pub AnswersPiece : Option Files → Held → Piece → Result Answer Fault → Held → Type 0
AnswersPiece files old piece outcome new = Serves files old.state (piece_of piece) outcome new.state

-- where the text of rows finds no memory, what stands there may as well have been refused for it
abbrev pub MayLackMemory : Option Files → State → PieceOf → Result Answer Fault → State → Type 0
MayLackMemory told old p (Ok (Rows header rows)) new = Serves told old p (Err Memory) new
MayLackMemory told old p outcome new = Unit {0}

-- so it is with a piece that an engine answered
abbrev pub PieceMayLackMemory : Option Files → Held → Piece → Result Answer Fault → Held → Type 0
PieceMayLackMemory files old piece outcome new = MayLackMemory files old.state (piece_of piece) outcome new.state

-- the sources' count grew by one for each statement that tells so: of the whole script, or of those that were answered
-- before the sink failed
abbrev pub Counted : List (Result Answer Fault) → ℕ → ℕ → Result Status RunFault → Type 0
Counted outcomes asked failed (Ok status) = failed ≡ asked + source_failures outcomes
Counted outcomes asked failed (Err e) =
    (answered later : List (Result Answer Fault)) × (outcomes ≡ answered ++ later) × (failed ≡ asked + source_failures answered)

-- the texts of outcomes were put, and a front of the text of the last
abbrev pub PutsUpTo : List (Result Answer Fault) → List (Result Answer Fault) → Option (List ℕ) → Option (List ℕ) → Type 0
PutsUpTo before last old new =
    (front back : List ℕ) × (output_of last ≡ front ++ back) × Appends old new (output_of before ++ front)

-- the sink failed at the text of one outcome, or at the flush behind all, and no source was asked for a later one
pub record Stops (outcomes : List (Result Answer Fault)) (old new : Option (List ℕ)) (asked failed : ℕ) : Type 0 where
  pub before : List (Result Answer Fault)
  pub last : List (Result Answer Fault)
  pub later : List (Result Answer Fault)
  pub all : outcomes ≡ before ++ (last ++ later)
  pub one : length last ≤ 1
  pub put : PutsUpTo before last old new
  pub counted : failed ≡ asked + source_failures (before ++ last)

-- a run that ends well stops nowhere before its end
abbrev pub StopsIfFailed : List (Result Answer Fault) → Option (List ℕ) → Option (List ℕ) → ℕ → ℕ → Result Status RunFault → Type 0
StopsIfFailed outcomes old new asked failed (Ok status) = Unit {0}
StopsIfFailed outcomes old new asked failed (Err e) = Stops outcomes old new asked failed

-- the output of the script's outcomes over the files of its source was written, or a prefix where the sink failed, and the
-- sources' failures are told
pub record RunsScript (source : Option Files) (max_rows : ℕ) (script : List ℕ) (old new : Option (List ℕ)) (before after asked failed : ℕ) (result : Result Status RunFault) : Type 0 where
  pub outcomes : List (Result Answer Fault)
  pub answered : HasOutcomes source max_rows script outcomes
  pub written : Wrote (output_of outcomes) old new before after result
  pub counted : Counted outcomes asked failed result
  pub stopped : StopsIfFailed outcomes old new asked failed result
  pub told : IfOk result (λ status. status ≡ status_of outcomes)

-- the same of a sink and of sources
abbrev pub Answers : {K S : Type 0} → Limits → List ℕ → Sink K → K → K → Sources S → S → S → Result Status RunFault → Type 0
Answers limits script sink old new sources asked failed result =
    RunsScript (sources.files asked) limits.max_rows script (sink.contents old) (sink.contents new) (sink.failures old) (sink.failures new) (sources.failures asked) (sources.failures failed) result

-- the exit status of the program after a run
abbrev pub exit_number : Result Status RunFault → ℕ
exit_number (Ok AllAccepted) = 0
exit_number (Ok SomeRefused) = 1
exit_number (Err Output) = 3

-- the program ran a script, and ends with this status; at 0 and 1 the output is flushed, once
pub record EndsRun {K S : Type 0} (limits : Limits) (script : List ℕ) (sink : Sink K) (old new : K) (sources : Sources S) (asked failed : S) (exit : ℕ) : Type 0 where
  pub ended : Result Status RunFault
  pub ran : Answers limits script sink old new sources asked failed ended
  pub flushed : IfOk ended (λ status. sink.is_flushed new ≡ true)
  pub once : sink.flushes new ≡ flushes_after ended (sink.flushes old)
  pub told : exit ≡ exit_number ended
