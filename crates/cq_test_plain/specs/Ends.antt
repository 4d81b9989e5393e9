-- The ends of the total order.
use Rattle.cq_values.specs.declared.value.Value.{Value}
use Rattle.cq_model.specs.Group.{higher, lower}
use Rattle.cq_test_plain.specs.declared.aggregates.End.{End}
use Rattle.cq_test_plain.specs.declared.aggregates.End.TheVariants.{Greatest, Least}

-- of two values the one that is nearer to the end
abbrev pub better : End → Value → Value → Value
better Least = lower
better Greatest = higher
