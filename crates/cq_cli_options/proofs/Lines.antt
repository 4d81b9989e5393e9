-- What clap finds in the words of a command line.
use Rattle.std.proofs.Common.{◌≡◌, List, [], Option, Some, None, Err, ap, ◌∙◌, option_map, unwrap_or, inl, inr}
use Rattle.std.specs.Borrow.{Bor}
use Rattle.clap.specs.Words.{HasKind, Row, Text, fault_of, first_of, first_value, kind_of, rows_of}
use Rattle.clap.specs.declared.error.Error.{Error}
use Rattle.clap.specs.declared.parser.matches.Found.{Found}
use Rattle.clap.proofs.WalkLemmas.{first_value-rows}
use Rattle.clap.specs.declared.error.kind.ErrorKind.{ErrorKind}
use Rattle.clap.specs.declared.error.kind.ErrorKind.TheVariants as kinds
use Rattle.cq_cli_options.specs.Fault.{AnswersBy, IsFaultOf, IsRequest}
use Rattle.cq_cli_options.specs.Line.{colview, value_of_rows}
use Rattle.cq_cli_options.specs.declared.fault.LineFault.{LineFault}
use Rattle.cq_cli_options.specs.declared.fault.LineFault.TheVariants.{Help, Memory, Refused}

-- a lent text with an empty one to fall back on reads as the text itself would
unwrapped : (text : Option (Bor Text)) (read : Option Text) (empty : Bor Text) → empty.now ≡ [] → option_map (λ s. s.now) text ≡ read → (unwrap_or text empty).now ≡ unwrap_or read []
unwrapped None None empty none e = none
unwrapped None (Some x) empty none e = absurd cc
unwrapped (Some x) None empty none e = absurd cc
unwrapped (Some x) (Some y) empty none e = cc

-- the value that is read is that of the subcommand's match
pub value_found : (id : Text) (entered : Option (Text × List Row)) (f : Found) (text : Option (Bor Text)) (empty : Bor Text) → Some (rows_of f) ≡ option_map (λ p. p.1) entered → option_map (λ s. s.now) text ≡ first_value f id → empty.now ≡ []
    → (unwrap_or text empty).now ≡ value_of_rows id entered
value_found id None f text empty rows read none = absurd cc
value_found id (Some p) f text empty rows read none =
    let same : rows_of f ≡ p.1 = cc in
    unwrapped text (first_of id p.1) empty none (read ∙ first_value-rows f id ∙ ap (first_of id) same)

-- a want of memory is no request
not_requested : {kind : ErrorKind} → kind ≡ kinds.OutOfMemory → IsRequest kind → ⊥
not_requested memory (inl help) = absurd cc
not_requested memory (inr version) = absurd cc

-- a fault that clap's error tells is one of those that clap finds, or memory is wanting
pub answers_by : (words : List Text) (error : Error) (fault : LineFault) → HasKind (fault_of colview words) error → IsFaultOf (kind_of error) fault → AnswersBy words (Err fault)
answers_by words error Memory has is = tt
answers_by words error (Help text) (inl memory) is = absurd (not_requested memory is)
answers_by words error (Help text) (inr among) is = inl (kind_of error, among, is)
answers_by words error (Refused text) (inl memory) is = absurd (is.1 memory)
answers_by words error (Refused text) (inr among) is = inl (kind_of error, among, is)
