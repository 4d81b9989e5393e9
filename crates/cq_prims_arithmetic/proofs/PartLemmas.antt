-- Parts of days are numbers.
use Rattle.std.proofs.Common.{◌≡◌, zero, suc, List, [], ◌∷◌, map, refl}
use Rattle.cq_values.specs.declared.value.Value.{Value}
use Rattle.cq_values.specs.declared.value.Value.TheVariants.{Null, Number, Day, Text}
use Rattle.cq_values.specs.declared.day_part.DayPart.{DayPart}
use Rattle.cq_model.specs.Eval.{extracted}
use Rattle.cq_model.specs.Group.{addend}
use Rattle.cq_vectors_stored.specs.Columns.{number_unless}
use Rattle.cq_prims_arithmetic.specs.Operation.{no_number}
use Rattle.cq_prims_arithmetic.proofs.PlaceLemmas.{AreNumbers}

part_number : (part : DayPart) (v : Value) → number_unless (addend (extracted part v)) (no_number (extracted part v)) ≡ extracted part v
part_number part (Number n) = refl
part_number part (Day n) = refl
part_number part (Text n) = refl
part_number part Null = refl

-- each part is a number or NULL
pub parts_numbers : (part : DayPart) (vs : List Value) → AreNumbers (map (extracted part) vs)
parts_numbers part [] k = refl
parts_numbers part (v ∷ vs) zero = part_number part v
parts_numbers part (v ∷ vs) (suc k) = parts_numbers part vs k
