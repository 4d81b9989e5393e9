-- Where a write meets a value that does not fit 127 bits and a sign.
use Rattle.std.specs.Prelude.{◌≡◌, true, List, Option}
use Rattle.std.specs.List.{Any}
use Rattle.cq_values.specs.Value.{Row}
use Rattle.cq_model.specs.declared.assignment.Assignment.{Assignment}
use Rattle.cq_model.specs.Expr.{Cond}
use Rattle.cq_model.specs.Meaning.{keeps}
use Rattle.cq_test_plain.specs.Wide.{IsWideAt, IsWideIn}

-- what a column is set to is too wide in this row
abbrev pub IsSetWide : Row → Assignment → Type 0
IsSetWide row assignment = IsWideAt assignment.value row

-- an UPDATE is too wide in a row: in WHERE, or in SET where WHERE chooses the row
pub data IsUpdateWide (assignments : List Assignment) (condition : Option Cond) (row : Row) : Type 0 where
  in_filter : IsWideIn condition row → IsUpdateWide assignments condition row
  in_image : keeps condition row ≡ true → Any (IsSetWide row) assignments → IsUpdateWide assignments condition row
