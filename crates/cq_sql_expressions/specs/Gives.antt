-- What a reader returned, against what there is to read.
use Rattle.std.specs.Prelude.{◌≡◌, Option, Some, None, Result, Ok, Err}
use Rattle.cq_sql_expressions.specs.declared.fault.SqlFault.{SqlFault}
use Rattle.cq_sql_expressions.specs.declared.fault.SqlFault.TheVariants.{Memory, Syntax, LimitExceeded}

-- memory may run out, and otherwise there is nothing to read
abbrev pub Fails : {Y : Type 0} → SqlFault → Option Y → Type 0
Fails Memory read = Unit {0}
Fails Syntax read = read ≡ None
Fails LimitExceeded read = ⊥

-- what a reader returned, seen by view, is what there is to read, unless memory ran out
abbrev pub Gives : {X Y : Type 0} → (X → Y) → Result X SqlFault → Option Y → Type 0
Gives view (Ok x) read = read ≡ Some (view x)
Gives view (Err e) read = Fails e read
