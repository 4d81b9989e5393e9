-- Numbers of one width.
use Rattle.std.specs.Prelude.{List, ℕ}
use Rattle.cq_encodings_plain.specs.declared.packed_numbers.Widths.{Widths}
use Rattle.cq_encodings_plain.specs.declared.packed_numbers.Widths.TheVariants as width

-- the numbers that stand in the lists of a width
abbrev pub numbers_in : Widths → List ℕ
numbers_in (width.One numbers) = numbers.items
numbers_in (width.Two numbers) = numbers.items
numbers_in (width.Four numbers) = numbers.items
numbers_in (width.Eight numbers) = numbers.items
numbers_in (width.Bits numbers) = numbers
