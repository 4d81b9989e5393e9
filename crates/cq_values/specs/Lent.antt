-- What a lent value stands for.
use Rattle.cq_values.specs.declared.value.Value.{Value}
use Rattle.cq_values.specs.declared.value.Value.TheVariants.{Null, Number, Text, Day}
use Rattle.cq_values.specs.declared.lent.Lent.{Lent}
use Rattle.cq_values.specs.declared.lent.Lent.TheVariants as lent

-- a lent value stands for the value that it was read from
abbrev pub owned : Lent → Value
owned (lent.Number n) = Number n
owned (lent.Day d) = Day d
owned (lent.Text t) = Text t.now
owned lent.Null = Null
