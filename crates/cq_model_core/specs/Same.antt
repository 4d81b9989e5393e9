-- Whether two expressions, conditions or aggregates are one, once names are resolved.
use Rattle.std.specs.Prelude.{◌==◌, ◌&&◌, Bool, true, false}
use Rattle.std.specs.Cmp.Lexicographic.{pointwise}
use Rattle.std.specs.Ordering.{eq_by_cmp}
use Rattle.cq_values.specs.Order.{value_cmp}
use Rattle.cq_values.specs.Texts.{is_text}
use Rattle.cq_values.specs.declared.comparison.Comparison.{Comparison}
use Rattle.cq_values.specs.declared.comparison.Comparison.TheVariants.{Equal, NotEqual, Less, LessOrEqual, Greater, GreaterOrEqual}
use Rattle.cq_values.specs.declared.day_part.DayPart.{DayPart}
use Rattle.cq_values.specs.declared.day_part.DayPart.TheVariants as part
use Rattle.cq_values.specs.declared.value.Value.{Value}
use Rattle.cq_model.specs.Expr.{Expr, Column, Literal, Negate, Plus, Times, Extract, Cond, Compare, IsNull, Between, In, Like, Not, And, Or}
use Rattle.cq_model.specs.declared.query.Aggregate.{Aggregate}
use Rattle.cq_model.specs.declared.query.Aggregate.TheVariants.{CountAll, Count, CountDistinct, Sum, Min, Max}

-- two values
abbrev pub same_value : Value → Value → Bool
same_value = eq_by_cmp value_cmp

-- two parts of a day
abbrev pub same_part : DayPart → DayPart → Bool
same_part part.Year part.Year = true
same_part part.Month part.Month = true
same_part part.Day part.Day = true
same_part a b = false

-- two of the six comparisons
abbrev pub same_comparison : Comparison → Comparison → Bool
same_comparison Equal Equal = true
same_comparison NotEqual NotEqual = true
same_comparison Less Less = true
same_comparison LessOrEqual LessOrEqual = true
same_comparison Greater Greater = true
same_comparison GreaterOrEqual GreaterOrEqual = true
same_comparison a b = false

-- two expressions, each column by its place
abbrev pub same_expr : Expr → Expr → Bool
same_expr (Column i) (Column j) = i == j
same_expr (Literal v) (Literal w) = same_value v w
same_expr (Negate a) (Negate b) = same_expr a b
same_expr (Plus a b) (Plus c d) = same_expr a c && same_expr b d
same_expr (Times a b) (Times c d) = same_expr a c && same_expr b d
same_expr (Extract p a) (Extract q b) = same_part p q && same_expr a b
same_expr a b = false

-- two conditions
abbrev pub same_cond : Cond → Cond → Bool
same_cond (Compare c a b) (Compare d e f) = same_comparison c d && (same_expr a e && same_expr b f)
same_cond (IsNull a) (IsNull b) = same_expr a b
same_cond (Between a b c) (Between d e f) = same_expr a d && (same_expr b e && same_expr c f)
same_cond (In a cs) (In b ds) = same_expr a b && pointwise same_expr cs ds
same_cond (Like a p) (Like b q) = same_expr a b && is_text p q
same_cond (Not a) (Not b) = same_cond a b
same_cond (And a b) (And c d) = same_cond a c && same_cond b d
same_cond (Or a b) (Or c d) = same_cond a c && same_cond b d
same_cond a b = false

-- two aggregates
abbrev pub same_aggregate : Aggregate → Aggregate → Bool
same_aggregate CountAll CountAll = true
same_aggregate (Count a) (Count b) = same_expr a b
same_aggregate (CountDistinct a) (CountDistinct b) = same_expr a b
same_aggregate (Sum a) (Sum b) = same_expr a b
same_aggregate (Min a) (Min b) = same_expr a b
same_aggregate (Max a) (Max b) = same_expr a b
same_aggregate a b = false
