-- What is printed for a statement.
use Rattle.std.specs.Prelude.{◌≡◌, ℕ, List, [], ◌∷◌, ◌++◌, codes, Result, Ok, Err, IfOk}
use Rattle.std.specs.Fmt.{decimal}
use Rattle.cq_model_step.specs.declared.answer.Answer.{Answer}
use Rattle.cq_model_step.specs.declared.answer.Answer.TheVariants.{Done, Count, Rows}
use Rattle.cq_binder_rules.specs.declared.fault.Fault.{Fault}
use Rattle.cq_binder_rules.specs.declared.fault.Fault.TheVariants.{Memory}
use Rattle.cq_binder_rules.specs.FaultText.{fault_text}
use Rattle.cq_values.specs.Printed.{rows_text}
use Rattle.cq_cli.specs.declared.endings.Status.{Status}
use Rattle.cq_cli.specs.declared.endings.Status.TheVariants.{AllAccepted, SomeRefused}
use Rattle.cq_cli.specs.declared.printing.Printed.{Printed}
use Rattle.cq_cli.specs.declared.printing.Printed.TheVariants as prints
use Rattle.cq_cli.specs.declared.endings.RunFault.{RunFault}
use Rattle.cq_cli.specs.declared.sink.Sink.{Ghosts as Sink}
use Rattle.cq_cli.specs.Sinks.{Writes}

-- the line that is printed for a statement that is refused
abbrev pub fault_line : Fault → List ℕ
fault_line f = codes "error " ++ (fault_text f ++ 10 ∷ [])

-- the text that is printed for a statement
abbrev pub printed_text : Printed → List ℕ
printed_text prints.Done = codes "ok\n"
printed_text (prints.Count n) = codes "ok " ++ (decimal n ++ 10 ∷ [])
printed_text (prints.Rows text) = text
printed_text (prints.Refused f) = fault_line f

-- it shows the outcome; a result whose text finds no memory is refused
abbrev pub Shows : Result Answer Fault → Printed → Type 0
Shows (Ok (Rows header rows)) (prints.Rows text) = text ≡ rows_text header rows
Shows (Ok (Rows header rows)) (prints.Refused Memory) = Unit {0}
Shows (Ok Done) prints.Done = Unit {0}
Shows (Ok (Count n)) (prints.Count m) = m ≡ n
Shows (Err f) (prints.Refused g) = g ≡ f
Shows outcome printed = ⊥

-- the status that the one statement has by itself
abbrev pub printed_status : Printed → Status
printed_status (prints.Refused f) = SomeRefused
printed_status printed = AllAccepted

-- what is shown for an outcome was written, and its status is told
pub record Tells {K : Type 0} (outcome : Result Answer Fault) (sink : Sink K) (old new : K) (result : Result Status RunFault) : Type 0 where
  pub printed : Printed
  pub shows : Shows outcome printed
  pub written : Writes (printed_text printed) sink old new result
  pub told : IfOk result (λ status. status ≡ printed_status printed)
