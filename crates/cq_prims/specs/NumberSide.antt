-- Sides of comparisons of numbers.
use Rattle.std.specs.Prelude.{ℤ, List, replicate}
use Rattle.cq_prims.specs.declared.number_side.NumberForm.{NumberForm}
use Rattle.cq_prims.specs.declared.number_side.NumberForm.TheVariants.{Column, Constant}

-- the number of each place
abbrev pub numbers_in : NumberForm → List ℤ
numbers_in (Column values) = values.now
numbers_in (Constant value len) = replicate len value
