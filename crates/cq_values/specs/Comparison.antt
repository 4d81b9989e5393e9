-- Comparisons of values (ISO 9075-2, 8.2).
use Rattle.std.specs.Prelude.{Bool}
use Rattle.std.specs.Ordering.{is_eq, is_ne, is_lt, is_le, is_gt, is_ge}
use Rattle.std.specs.declared.cmp.Ordering.{Ordering}
use Rattle.cq_values.specs.declared.value.Value.{Value}
use Rattle.cq_values.specs.declared.value.Value.TheVariants.{Null}
use Rattle.cq_values.specs.declared.truth.Truth.{Truth}
use Rattle.cq_values.specs.declared.truth.Truth.TheVariants.{Unknown}
use Rattle.cq_values.specs.Truth.{truth_of}
use Rattle.cq_values.specs.Order.{value_cmp}
use Rattle.cq_values.specs.declared.comparison.Comparison.{Comparison}
use Rattle.cq_values.specs.declared.comparison.Comparison.TheVariants.{Equal, NotEqual, Less, LessOrEqual, Greater, GreaterOrEqual}

-- whether an ordering passes a comparison
abbrev pub passes : Comparison → Ordering → Bool
passes Equal o = is_eq o
passes NotEqual o = is_ne o
passes Less o = is_lt o
passes LessOrEqual o = is_le o
passes Greater o = is_gt o
passes GreaterOrEqual o = is_ge o

-- a comparison with NULL is Unknown
abbrev pub compared : Comparison → Value → Value → Truth
compared c Null w = Unknown
compared c v Null = Unknown
compared c v w = truth_of (passes c (value_cmp v w))
