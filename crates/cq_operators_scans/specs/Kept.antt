-- Rows that a condition keeps.
use Rattle.std.specs.Prelude.{Bool, List}
use Rattle.std.specs.List.{filter}
use Rattle.cq_values.specs.Truth.{is_true}
use Rattle.cq_values.specs.Value.{Row}
use Rattle.cq_model.specs.Condition.{holds}
use Rattle.cq_model.specs.Expr.{Cond}

-- whether a condition is True in a row, neither False nor Unknown
abbrev pub keeps_true : Cond → Row → Bool
keeps_true c row = is_true (holds c row)

-- the rows in which it is True
abbrev pub kept_of : Cond → List Row → List Row
kept_of c rows = filter (keeps_true c) rows
