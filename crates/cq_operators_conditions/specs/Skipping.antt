-- Rows of which none can pass.
use Rattle.std.specs.Prelude.{◌≡◌, ℕ, false, List, map}
use Rattle.std.specs.List.{AllByRecursion}
use Rattle.cq_values.specs.Truth.{is_true}
use Rattle.cq_values.specs.Value.{Row, column}
use Rattle.cq_values.specs.declared.comparison.Comparison.{Comparison}
use Rattle.cq_model.specs.Condition.{holds}
use Rattle.cq_model.specs.Eval.{eval}
use Rattle.cq_model.specs.Expr.{Cond, Expr, Compare, IsNull, Between, In, Not}
use Rattle.cq_model.specs.Own.{in_place}
use Rattle.cq_model.specs.Trees.{expr_of}
use Rattle.cq_model.specs.declared.expr.ExprTree.{ExprTree}
use Rattle.cq_segments_pieces.specs.Marked.{rows_of}
use Rattle.cq_operators_conditions.specs.declared.skipping.Bounded.{Bounded}
use Rattle.cq_operators_conditions.specs.declared.skipping.Bounded.TheVariants as bounded
use Rattle.cq_operators_conditions.specs.declared.skipping.ValueTest.{ValueTest}
use Rattle.cq_operators_conditions.specs.declared.skipping.ValueTest.TheVariants as test

-- the rows, deleted or not
abbrev pub bounded_rows : Bounded → List Row
bounded_rows (bounded.Segment segment) = rows_of segment.now
bounded_rows (bounded.Part columns) = columns.now

-- the condition is True in none of the rows, whose values stand behind so many others
abbrev pub NoneHolds : ℕ → Cond → List Row → Type 0
NoneHolds before condition rows = AllByRecursion (λ row. is_true (holds condition (in_place before row)) ≡ false) rows

-- the comparison of two expressions is True in none of them
abbrev pub NoneCompares : ℕ → Comparison → ExprTree → ExprTree → List Row → Type 0
NoneCompares before comparison a b rows = NoneHolds before (Compare comparison (expr_of a) (expr_of b)) rows

-- the condition that an expression passes a test
abbrev pub asked : ValueTest → Expr → Cond
asked (test.Compare comparison other) e = Compare comparison e (expr_of other.now)
asked test.IsNull e = IsNull e
asked test.IsNotNull e = Not (IsNull e)

-- nor is a test of one
abbrev pub NonePasses : ℕ → ValueTest → ExprTree → List Row → Type 0
NonePasses before test e rows = NoneHolds before (asked test (expr_of e)) rows

-- nor BETWEEN
abbrev pub NoneBetween : ℕ → ExprTree → ExprTree → ExprTree → List Row → Type 0
NoneBetween before e least greatest rows = NoneHolds before (Between (expr_of e) (expr_of least) (expr_of greatest)) rows

-- nor IN
abbrev pub NoneIn : ℕ → ExprTree → List ExprTree → List Row → Type 0
NoneIn before e choices rows = NoneHolds before (In (expr_of e) (map expr_of choices)) rows

-- the expression is this column of the rows
abbrev pub IsColumn : ℕ → Expr → ℕ → Type 0
IsColumn before e at = (row : Row) → eval e (in_place before row) ≡ column row at
