-- Whether a value is one of the choices behind IN.
use Rattle.std.specs.Prelude.{List, map}
use Rattle.cq_values.specs.declared.value.Value.{Value}
use Rattle.cq_values.specs.declared.truth.Truth.{Truth}
use Rattle.cq_values.specs.declared.comparison.Comparison.TheVariants.{Equal}
use Rattle.cq_values.specs.Comparison.{compared}
use Rattle.cq_values.specs.Value.{Row}
use Rattle.cq_model.specs.Condition.{any_of}
use Rattle.cq_model.specs.Eval.{eval}
use Rattle.cq_model.specs.Expr.{Expr}

-- True if the value equals one of them in the row, else Unknown if it cannot be told of one
abbrev pub equals_one : Value → List Expr → Row → Truth
equals_one v choices row = any_of (map (λ e. compared Equal v (eval e row)) choices)
