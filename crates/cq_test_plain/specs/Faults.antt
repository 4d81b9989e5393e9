-- What the faults of the evaluator tell.
use Rattle.cq_test_plain.specs.declared.fault.PlainFault.{PlainFault}
use Rattle.cq_test_plain.specs.declared.fault.PlainFault.TheVariants.{Memory, TooWide, SumOutOfRange}

-- a value is too wide, or a total is out of range; want of memory tells nothing
abbrev pub Tells : Type 0 → Type 0 → PlainFault → Type 0
Tells wide outside Memory = Unit {0}
Tells wide outside TooWide = wide
Tells wide outside SumOutOfRange = outside
