-- Sides of comparisons of days.
use Rattle.std.specs.Prelude.{ℤ, List, replicate}
use Rattle.cq_prims.specs.declared.day_side.DayForm.{DayForm}
use Rattle.cq_prims.specs.declared.day_side.DayForm.TheVariants.{Column, Constant}

-- the day of each place, by its number
abbrev pub days_in : DayForm → List ℤ
days_in (Column values) = values.now
days_in (Constant value len) = replicate len value
