-- The output of a script: the texts of its statements' outcomes, one after the other (docs/LANGUAGE.md, Scripts and tokens).
use Rattle.std.specs.Prelude.{◌≡◌, ℕ, Bool, true, false, not, List, [], ◌∷◌, ◌++◌, codes, map, filter, Option, Some, None, Result, Ok, Err}
use Rattle.std.specs.Fmt.{decimal}
use Rattle.std.specs.List.{count_by, flat_map}
use Rattle.std.specs.Str.{IsUtf8}
use Rattle.cq_sql_language.specs.declared.statement.Statement.{Statement}
use Rattle.cq_sql_language.specs.Sentence.{IsSentence, IsNoSentence, IsPastLimits}
use Rattle.cq_sql_language.specs.Pieces.{PieceOf, HasPieces}
use Rattle.cq_model_step.specs.declared.answer.Answer.{Answer}
use Rattle.cq_model_step.specs.declared.answer.Answer.TheVariants.{Done, Count, Rows}
use Rattle.cq_binder_rules.specs.declared.fault.Fault.{Fault}
use Rattle.cq_binder_rules.specs.declared.fault.Fault.TheVariants.{Memory, SourceFailed, NotUtf8, Syntax, LimitExceeded}
use Rattle.cq_binder_rules.specs.FaultText.{fault_text}
use Rattle.cq_binder_rules.specs.Records.{Files}
use Rattle.cq_values.specs.Printed.{rows_text}
use Rattle.cq_model_state.specs.State.{State, first_state}
use Rattle.cq_model_step.specs.Step.{StepFrom}

-- what a statement of a script, or what stands in its place, is answered with, and what state it leaves; where rows
-- find no memory for their text the statement is refused for it. Its files are those that the source tells, if it tells any
pub data Serves (told : Option Files) (old : State) (p : PieceOf) (outcome : Result Answer Fault) (new : State) : Type 0 where
  rest_without_semicolon : p.closed ≡ false → outcome ≡ Err Syntax → new ≡ old → Serves told old p outcome new
  sentence : p.closed ≡ true → (s : Statement) → IsSentence p.text s → StepFrom told old s outcome new → Serves told old p outcome new
  no_sentence : p.closed ≡ true → IsNoSentence p.text → outcome ≡ Err Syntax → new ≡ old → Serves told old p outcome new
  past_limits : p.closed ≡ true → IsPastLimits p.text → outcome ≡ Err LimitExceeded → new ≡ old → Serves told old p outcome new
  out_of_memory : p.closed ≡ true → outcome ≡ Err Memory → new ≡ old → Serves told old p outcome new

-- the statements are answered one after the other, each in the state that the one before it left
abbrev pub Runs : Option Files → State → List PieceOf → List (Result Answer Fault) → State → Type 0
Runs told old [] [] new = new ≡ old
Runs told old [] (o ∷ os) new = ⊥
Runs told old (p ∷ ps) [] new = ⊥
Runs told old (p ∷ ps) (o ∷ os) new = (mid : State) × Serves told old p o mid × Runs told mid ps os new

-- pieces of blanks and comments alone are no statements
abbrev pub statements_among : List PieceOf → List PieceOf
statements_among pieces = filter (λ p. not p.blank) pieces

-- what the statements of a script are answered with, from the empty state, where the source tells these files; a script that
-- is not UTF-8 has one line
pub data HasOutcomes (told : Option Files) (max_rows : ℕ) (script : List ℕ) (outcomes : List (Result Answer Fault)) : Type 0 where
  not_utf8 : (IsUtf8 script → ⊥) → outcomes ≡ Err NotUtf8 ∷ [] → HasOutcomes told max_rows script outcomes
  answered : IsUtf8 script → (pieces : List PieceOf) → HasPieces script pieces → (last : State) → Runs told (first_state max_rows) (statements_among pieces) outcomes last → HasOutcomes told max_rows script outcomes

-- what is written for a statement
abbrev pub outcome_text : Result Answer Fault → List ℕ
outcome_text (Ok Done) = codes "ok\n"
outcome_text (Ok (Count n)) = codes "ok " ++ (decimal n ++ 10 ∷ [])
outcome_text (Ok (Rows header rows)) = rows_text header rows
outcome_text (Err f) = codes "error " ++ (fault_text f ++ 10 ∷ [])

-- the output that outcomes make
abbrev pub output_of : List (Result Answer Fault) → List ℕ
output_of outcomes = flat_map outcome_text outcomes

-- a refusal for a source that failed
abbrev pub is_source_failure : Result Answer Fault → Bool
is_source_failure (Err SourceFailed) = true
is_source_failure outcome = false

-- how often a source failed, as outcomes tell it
abbrev pub source_failures : List (Result Answer Fault) → ℕ
source_failures outcomes = count_by is_source_failure outcomes

-- a refusal that neither the script nor its files decide: memory was wanting, or the source failed
abbrev pub outside : Result Answer Fault → Option Fault
outside (Err Memory) = Some Memory
outside (Err SourceFailed) = Some SourceFailed
outside outcome = None

-- two runs of a script over the same files that agree on these refusals have the same outcomes
abbrev pub RefusalsDecide : Type 0
RefusalsDecide =
    (files : Files) (max_rows : ℕ) (script : List ℕ) (xs ys : List (Result Answer Fault))
    → HasOutcomes (Some files) max_rows script xs → HasOutcomes (Some files) max_rows script ys
    → map outside xs ≡ map outside ys → xs ≡ ys
