-- Expressions and conditions over the columns of a row, by their places. Chains group to the left.
use Rattle.std.specs.Prelude.{ℕ, List}
use Rattle.cq_values.specs.declared.value.Value.{Value}
use Rattle.cq_values.specs.declared.day_part.DayPart.{DayPart}
use Rattle.cq_values.specs.declared.comparison.Comparison.{Comparison}

-- an expression with a value
pub data Expr : Type 0 where
  Column : ℕ → Expr
  Literal : Value → Expr
  Negate : Expr → Expr
  Plus : Expr → Expr → Expr
  Times : Expr → Expr → Expr
  Extract : DayPart → Expr → Expr

-- an expression with a truth; behind the value of Between stand the least and the greatest that pass
pub data Cond : Type 0 where
  Compare : Comparison → Expr → Expr → Cond
  IsNull : Expr → Cond
  Between : Expr → Expr → Expr → Cond
  In : Expr → List Expr → Cond
  Like : Expr → List ℕ → Cond
  Not : Cond → Cond
  And : Cond → Cond → Cond
  Or : Cond → Cond → Cond
