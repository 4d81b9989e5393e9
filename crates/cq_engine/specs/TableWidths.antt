-- Tables that a query names.
use Rattle.cq_model.specs.declared.query.Source.{Source}
use Rattle.cq_model.specs.declared.query.Source.TheVariants.{Table, View}
use Rattle.cq_model_state.specs.State.{IsThere, TableOf}
use Rattle.std.specs.Prelude.{List}

-- the source is a table that is there
abbrev pub IsTableThere : List TableOf → Source → Type 0
IsTableThere tables (Table n) = IsThere n tables
IsTableThere tables (View place) = ⊥
