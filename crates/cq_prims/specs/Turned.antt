-- Comparisons whose sides are turned.
use Rattle.cq_values.specs.declared.comparison.Comparison.{Comparison}
use Rattle.cq_values.specs.declared.comparison.Comparison.TheVariants.{Equal, NotEqual, Less, LessOrEqual, Greater, GreaterOrEqual}

-- the comparison that says the same of the sides turned
abbrev pub turned : Comparison → Comparison
turned Equal = Equal
turned NotEqual = NotEqual
turned Less = Greater
turned LessOrEqual = GreaterOrEqual
turned Greater = Less
turned GreaterOrEqual = LessOrEqual
