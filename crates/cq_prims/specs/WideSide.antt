-- Sides of comparisons of numbers, or of days, that stand in any width.
use Rattle.std.specs.Prelude.{ℤ, List, replicate}
use Rattle.cq_vectors_stored.specs.Offsets.{offsets_in}
use Rattle.cq_prims.specs.Numbers.{above}
use Rattle.cq_prims.specs.declared.wide_side.WideForm.{WideForm}
use Rattle.cq_prims.specs.declared.wide_side.WideForm.TheVariants.{Above, Column, Constant, Days, Numbers}

-- the number of each place
abbrev pub wide_numbers_in : WideForm → List ℤ
wide_numbers_in (Column values) = values.now
wide_numbers_in (Numbers values) = values.now
wide_numbers_in (Days values) = values.now
wide_numbers_in (Above base offsets) = above base (offsets_in offsets)
wide_numbers_in (Constant value len) = replicate len value
