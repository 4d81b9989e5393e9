-- Where the arguments of aggregates fit 128 bits, in a row.
use Rattle.std.specs.Prelude.{List}
use Rattle.std.specs.List.{AllByRecursion}
use Rattle.cq_values.specs.Value.{Row}
use Rattle.cq_model.specs.Exact.{IsExactAt}
use Rattle.cq_model.specs.declared.query.Aggregate.{Aggregate}
use Rattle.cq_model.specs.declared.query.Aggregate.TheVariants.{CountAll, Count, CountDistinct, Sum, Min, Max}

-- an argument's results fit 128 bits on the way
abbrev pub IsExactFor : Aggregate → Row → Type 0
IsExactFor CountAll row = Unit {0}
IsExactFor (Count e) row = IsExactAt e row
IsExactFor (CountDistinct e) row = IsExactAt e row
IsExactFor (Sum e) row = IsExactAt e row
IsExactFor (Min e) row = IsExactAt e row
IsExactFor (Max e) row = IsExactAt e row

-- and those of each argument
abbrev pub AreExactOver : List Aggregate → Row → Type 0
AreExactOver aggregates row = AllByRecursion (λ a. IsExactFor a row) aggregates
