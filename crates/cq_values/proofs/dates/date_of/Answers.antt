use Rattle.std.proofs.Common.{arith}
use Rattle.std.proofs.lemmas.Grind.{common_steps}
use Rattle.cq_values.specs.Dates.{day_named}
use Rattle.cq_values.proofs.NamedDays.{day_named-digits, day_named-other}
use Rattle.cq_values.proofs.dates.date_of.Goals as goal

-- the digits that were read are those of the text
pub returns-in_ok-two_digits-in-45-3-clause-named : goal.returns-in_ok-two_digits-in-45-3-clause-named
returns-in_ok-two_digits-in-45-3-clause-named c =
    let century = c.in_ok-century-in-45.ensures in
    let rest = c.in_ok-two_digits-in-45.ensures in
    let month = c.in_ok-two_digits-in-45-2.ensures in
    let day = c.in_ok-two_digits-in-45-3.ensures in
    let named = day_named-digits c.as_bytes.result.now _ _ _ _ (omega arith) (omega arith, omega arith) (century.ok, century.digits) (rest.ok, rest.digits) (month.ok, month.digits) (day.ok, day.digits) in
    rw (← c.as_bytes.ensures.value, named, ← c.from.ensures, ← c.from-in-45.ensures) c.day_at.ensures.named

-- a text that is no list of ten characters with two dashes names no day
pub returns-in_default-clause-named : goal.returns-in_default-clause-named
unfolding day_named
returns-in_default-clause-named c = grind (arith, common_steps, day_named-other)
