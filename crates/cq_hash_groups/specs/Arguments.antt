-- What aggregates read of rows.
use Rattle.std.specs.Prelude.{pos}
use Rattle.cq_values.specs.declared.value.Value.{Value}
use Rattle.cq_values.specs.declared.value.Value.TheVariants.{Number}
use Rattle.cq_values.specs.Value.{Row}
use Rattle.cq_model.specs.Eval.{eval}
use Rattle.cq_model.specs.declared.query.Aggregate.{Aggregate}
use Rattle.cq_model.specs.declared.query.Aggregate.TheVariants.{CountAll, Count, CountDistinct, Sum, Min, Max}

-- what an aggregate reads of a row: each row itself counts for COUNT(*)
abbrev pub argument : Aggregate → Row → Value
argument CountAll r = Number (pos 0)
argument (Count e) r = eval e r
argument (CountDistinct e) r = eval e r
argument (Sum e) r = eval e r
argument (Min e) r = eval e r
argument (Max e) r = eval e r
