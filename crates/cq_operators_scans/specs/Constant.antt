-- Expressions that have the same value in every row.
use Rattle.std.specs.Prelude.{◌≡◌}
use Rattle.cq_values.specs.Lent.{owned}
use Rattle.cq_values.specs.Value.{Row}
use Rattle.cq_values.specs.declared.lent.Lent.{Lent}
use Rattle.cq_model.specs.Eval.{eval}
use Rattle.cq_model.specs.Expr.{Expr, Negate}

-- the expression has this value in every row
abbrev pub HasValue : Expr → Lent → Type 0
HasValue e value = (row : Row) → eval e row ≡ owned value

-- its negative has this one
abbrev pub IsNegative : Expr → Lent → Type 0
IsNegative e value = HasValue (Negate e) value
