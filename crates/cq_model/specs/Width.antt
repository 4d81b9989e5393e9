-- How large the values of an expression can be, at a row and while the columns keep limits.
use Rattle.std.specs.Prelude.{◌≤◌, ◌<◌, ℕ, ◌+◌, ◌*◌, ◌^◌, if◌then◌else◌, nat_lt, max, nat_abs, Option, Some, None, IfSome, List, map, fold, slice_index_or}
use Rattle.std.specs.List.{AllByRecursion}
use Rattle.cq_values.specs.declared.value.Value.{Value}
use Rattle.cq_values.specs.declared.value.Value.TheVariants.{Number}
use Rattle.cq_values.specs.Value.{Row, column}
use Rattle.cq_values.specs.declared.day_part.DayPart.{DayPart}
use Rattle.cq_values.specs.declared.day_part.DayPart.TheVariants as parts
use Rattle.cq_model.specs.Expr.{Expr, Column, Literal, Negate, Plus, Times, Extract, Cond, Compare, IsNull, Between, In, Like, Not, And, Or}

-- a number that is written or worked out stays below this size, so that it fits 127 bits and a sign
abbrev pub number_limit : ℕ
number_limit = 2 ^ 127

-- a number's distance from zero, and zero for what is no number
abbrev pub value_size : Value → ℕ
value_size (Number n) = nat_abs n
value_size v = 0

-- how large an expression's value can be, and the widest number that is written or worked out on the way to it
pub record Extent : Type 0 where
  pub size : ℕ
  pub widest : ℕ

-- the extent of a number that is written or worked out, of this size, with what is below it
abbrev pub extent_of : ℕ → ℕ → Extent
extent_of size below = record { size = size; widest = max size below }

-- a sum is at most as large as both sizes together
abbrev pub extent_plus : Extent → Extent → Extent
extent_plus a b = extent_of (a.size + b.size) (max a.widest b.widest)

-- a product is at most as large as the product of the sizes
abbrev pub extent_times : Extent → Extent → Extent
extent_times a b = extent_of (a.size * b.size) (max a.widest b.widest)

-- the greatest year, month and day of a month
abbrev pub part_limit : DayPart → ℕ
part_limit parts.Year = 9999
part_limit parts.Month = 12
part_limit parts.Day = 31

-- the extent of an expression over columns of these sizes. What is written or worked out counts for the widest: a column
-- adds nothing of its own, and neither does a part of a day
abbrev pub width : Expr → (ℕ → ℕ) → Extent
width (Column i) sizes = record { size = sizes i; widest = 0 }
width (Literal v) sizes = extent_of (value_size v) 0
width (Negate e) sizes = extent_of (width e sizes).size (width e sizes).widest
width (Plus a b) sizes = extent_plus (width a sizes) (width b sizes)
width (Times a b) sizes = extent_times (width a sizes) (width b sizes)
width (Extract part e) sizes = record { size = part_limit part; widest = (width e sizes).widest }

-- the widest number that is written or worked out on the way to the expression's value
abbrev pub widest : (ℕ → ℕ) → Expr → ℕ
widest sizes e = (width e sizes).widest

-- the widest number that is written or worked out on the way to the values of several expressions
abbrev pub widest_of : (ℕ → ℕ) → List Expr → ℕ
widest_of sizes es = fold max 0 (map (widest sizes) es)

-- the widest number written or worked out in a condition over columns of these sizes
abbrev pub widest_in : Cond → (ℕ → ℕ) → ℕ
widest_in (Compare c a b) sizes = max (widest sizes a) (widest sizes b)
widest_in (IsNull e) sizes = widest sizes e
widest_in (Between e a b) sizes = max (widest sizes e) (max (widest sizes a) (widest sizes b))
widest_in (In e es) sizes = max (widest sizes e) (widest_of sizes es)
widest_in (Like e pattern) sizes = widest sizes e
widest_in (Not c) sizes = widest_in c sizes
widest_in (And a b) sizes = max (widest_in a sizes) (widest_in b sizes)
widest_in (Or a b) sizes = max (widest_in a sizes) (widest_in b sizes)

-- the sizes of a row's values
abbrev pub sizes_of : Row → ℕ → ℕ
sizes_of row i = value_size (column row i)

-- the extent of an expression at a row
abbrev pub extent : Expr → Row → Extent
extent e row = width e (sizes_of row)

-- the widest number written or worked out in a condition at a row
abbrev pub widest_at : Cond → Row → ℕ
widest_at c row = widest_in c (sizes_of row)

-- no number that is written or worked out on the way to an expression's value is too wide at a row
abbrev pub IsNarrowAt : Expr → Row → Type 0
IsNarrowAt e row = (extent e row).widest < number_limit

-- nor on the way to the values of several expressions
abbrev pub AreNarrowAt : List Expr → Row → Type 0
AreNarrowAt es row = AllByRecursion (λ e. IsNarrowAt e row) es

-- nor on the way to the truth of a condition, where there is one
abbrev pub IsNarrowIn : Option Cond → Row → Type 0
IsNarrowIn condition row = IfSome condition (λ c. widest_at c row < number_limit)

-- the limit of a column, and zero past the end
abbrev pub limits_of : List ℕ → ℕ → ℕ
limits_of columns i = slice_index_or columns i 0

-- the extent that an expression never exceeds while the columns keep their limits
abbrev pub extent_limit : Expr → List ℕ → Extent
extent_limit e columns = width e (limits_of columns)

-- the width that no number written or worked out in a condition exceeds while the columns keep their limits
abbrev pub widest_limit : Cond → List ℕ → ℕ
widest_limit c columns = widest_in c (limits_of columns)

-- the size of what has nothing too wide on the way to it
abbrev pub fitting : Extent → Option ℕ
fitting x = if nat_lt x.widest number_limit then Some x.size else None

-- each value of the row is within the limit of its column
abbrev pub KeepsLimits : List ℕ → Row → Type 0
KeepsLimits columns row = (i : ℕ) → sizes_of row i ≤ limits_of columns i

-- an extent is within another in size and in width
pub record IsWithin (small large : Extent) : Type 0 where
  pub size : small.size ≤ large.size
  pub widest : small.widest ≤ large.widest
