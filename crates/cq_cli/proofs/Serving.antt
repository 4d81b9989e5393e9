-- What is printed for a piece is the text of an outcome that the piece may have.
use Rattle.std.proofs.Common.{◌≡◌, ℕ, ◌+◌, Bool, true, false, List, [], ◌∷◌, Option, Result, Ok, Err, IfOk, refl}
use Rattle.cq_sql_language.specs.Pieces.{PieceOf}
use Rattle.cq_sql_language.specs.Sentence.{IsSentence}
use Rattle.cq_sql_language.specs.declared.statement.Statement.{Statement}
use Rattle.cq_model_step.specs.declared.answer.Answer.{Answer}
use Rattle.cq_model_step.specs.declared.answer.Answer.TheVariants.{Done, Count, Rows}
use Rattle.cq_binder_rules.specs.declared.fault.Fault.{Fault}
use Rattle.cq_binder_rules.specs.declared.fault.Fault.TheVariants as faults
use Rattle.cq_binder_rules.specs.Records.{Files}
use Rattle.cq_model_state.specs.State.{State}
use Rattle.cq_model_step.specs.Output.{Serves, rest_without_semicolon, sentence, no_sentence, past_limits, out_of_memory}
use Rattle.cq_model_step.specs.Output.{outcome_text, source_failures}
use Rattle.cq_engine.specs.Commands.{MayBeRefused}
use Rattle.cq_cli.specs.declared.printing.Printed.{Printed}
use Rattle.cq_cli.specs.declared.printing.Printed.TheVariants as prints
use Rattle.cq_cli.specs.declared.endings.Status.{Status}
use Rattle.cq_cli.specs.declared.endings.RunFault.{RunFault}
use Rattle.cq_cli.specs.declared.sink.Sink.{Ghosts as Sink}
use Rattle.cq_cli.specs.Writing.{Wrote}
use Rattle.cq_cli.specs.Printing.{Shows, Tells, printed_status, printed_text}
use Rattle.cq_cli.specs.Running.{MayLackMemory, status_of}

-- what a statement may have been refused for, what stands there may have been refused for too
pub piece-memory : (told : Option Files) (old new : State) (p : PieceOf) (s : Statement) (o : Result Answer Fault) → p.closed ≡ true → IsSentence p.text s → MayBeRefused told old s o new → MayLackMemory told old p o new
piece-memory told old new p s (Ok (Rows header rows)) closed is step = sentence closed s is step
piece-memory told old new p s (Ok Done) closed is step = tt
piece-memory told old new p s (Ok (Count n)) closed is step = tt
piece-memory told old new p s (Err f) closed is step = tt

-- what is shown for an outcome is the text and the status of an outcome of the same piece
pub shown_serves : (source : Option Files) (old new : State) (p : PieceOf) (o : Result Answer Fault) (shown : Printed) → Serves source old p o new → MayLackMemory source old p o new → Shows o shown
    → (told : Result Answer Fault) × Serves source old p told new × (printed_text shown ≡ outcome_text told) × (printed_status shown ≡ status_of (told ∷ [])) × (source_failures (o ∷ []) ≡ source_failures (told ∷ []))
shown_serves source old new p (Ok Done) prints.Done h k s = (Ok Done, h, refl, refl, refl)
shown_serves source old new p (Ok (Count n)) (prints.Count m) h k s = (Ok (Count n), h, rw s refl, refl, refl)
shown_serves source old new p (Ok (Rows header rows)) (prints.Rows text) h k s = (Ok (Rows header rows), h, s, refl, refl)
shown_serves source old new p (Ok (Rows header rows)) (prints.Refused faults.Memory) h k s = (Err faults.Memory, k, refl, refl, refl)
shown_serves source old new p (Err f) (prints.Refused g) h k s = (Err f, h, rw s refl, refl, refl)
shown_serves source old new p o shown h k s = absurd s

-- the text of the piece's outcome was written, or a prefix where the sink failed; it tells whether a source failed
pub record ServesPiece (source : Option Files) (state : State) (piece : PieceOf) (next : State) (old new : Option (List ℕ)) (before after asked failed : ℕ) (result : Result Status RunFault) : Type 0 where
  pub outcome : Result Answer Fault
  pub answered : Serves source state piece outcome next
  pub written : Wrote (outcome_text outcome) old new before after result
  pub counted : failed ≡ asked + source_failures (outcome ∷ [])
  pub told : IfOk result (λ status. status ≡ status_of (outcome ∷ []))

-- what a piece was answered with was told, and so it was served
pub serves_piece : {K : Type 0} (source : Option Files) (sink : Sink K) (state : State) (piece : PieceOf) (next : State) (old new : K) (asked failed : ℕ) (outcome : Result Answer Fault) (result : Result Status RunFault)
    → Serves source state piece outcome next → MayLackMemory source state piece outcome next → failed ≡ asked + source_failures (outcome ∷ []) → Tells outcome sink old new result
    → ServesPiece source state piece next (sink.contents old) (sink.contents new) (sink.failures old) (sink.failures new) asked failed result
serves_piece source sink state piece next old new asked failed outcome result served rows counted tells =
    let told = shown_serves source state next piece outcome tells.printed served rows tells.shows in
    record {
      outcome = told.0;
      answered = told.1;
      written = rw (← told.2) tells.written;
      counted = rw (← told.4) counted;
      told = rw (← told.3) tells.told;
    }

-- memory may be wanting for any closed piece, and any other is refused; either way the state stays
pub refused_somehow : (source : Option Files) (s : State) (p : PieceOf) (closed : Bool) → p.closed ≡ closed → (o : Result Answer Fault) × Serves source s p o s
refused_somehow source s p true is = (Err faults.Memory, out_of_memory is refl refl)
refused_somehow source s p false is = (Err faults.Syntax, rest_without_semicolon is refl refl)
