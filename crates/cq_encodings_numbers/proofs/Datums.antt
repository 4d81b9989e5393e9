-- What the numbers of a kind stand for.
use Rattle.std.proofs.Common.{◌≡◌, ℤ, true, false, refl, ap, arith}
use Rattle.std.proofs.lemmas.Int.{ints}
use Rattle.cq_values.specs.Days.{IsDay}
use Rattle.cq_values.specs.Value.{is_null}
use Rattle.cq_values.specs.declared.value.Value.TheVariants.{Day}
use Rattle.cq_encodings_plain.specs.declared.kind.Kind.{Kind}
use Rattle.cq_encodings_plain.specs.declared.kind.Kind.TheVariants.{Days, Numbers}
use Rattle.cq_encodings_plain.specs.Kind.{IsOf, datum, is_day}

pub day_is : (n : ℤ) → IsDay n → is_day n ≡ true
day_is n day = grind (arith, ints, day.0, day.1)

-- a day's number stands for the day
pub day_datum : (n : ℤ) → IsDay n → datum Days n false ≡ Day n
day_datum n day = rw (day_is n day) refl

-- and no number of a kind for NULL
pub number_known : (kind : Kind) (n : ℤ) → IsOf kind n → is_null (datum kind n false) ≡ false
number_known Numbers n of = refl
number_known Days n day = ap is_null (day_datum n day)
