-- Truths of the rows of a scan.
use Rattle.std.specs.Prelude.{◌≡◌, ℕ, List, map}
use Rattle.std.specs.Simd.Lanes.{zip2}
use Rattle.cq_values.specs.declared.truth.Truth.{Truth}
use Rattle.cq_values.specs.Comparison.{compared}
use Rattle.cq_values.specs.Truth.{truth_of}
use Rattle.cq_values.specs.Value.{Row}
use Rattle.cq_values.specs.declared.value.Value.{Value}
use Rattle.cq_values.specs.declared.comparison.Comparison.{Comparison}
use Rattle.cq_model.specs.Condition.{between, is_null, liked}
use Rattle.cq_model.specs.Eval.{eval}
use Rattle.cq_model.specs.declared.expr.ExprTree.{ExprTree}
use Rattle.cq_model.specs.Trees.{expr_of}
use Rattle.cq_model_eval.specs.Choices.{equals_one}

-- the truths are those of the test in each row
abbrev pub AreTruths : (Row → Truth) → List Row → List Truth → Type 0
AreTruths test rows truths = truths ≡ map test rows

-- these are the truths of values, each compared with the expression's in the same row
abbrev pub AreCompared : Comparison → List Value → ExprTree → List Row → List Truth → Type 0
AreCompared comparison values e rows truths = truths ≡ zip2 (compared comparison) values (map (eval (expr_of e)) rows)

-- how the values of two expressions compare in a row
abbrev pub compared_at : Comparison → ExprTree → ExprTree → Row → Truth
compared_at comparison a b r = compared comparison (eval (expr_of a) r) (eval (expr_of b) r)

-- whether the value of an expression lies between those of two others in a row
abbrev pub between_at : ExprTree → ExprTree → ExprTree → Row → Truth
between_at e least greatest r = between (eval (expr_of e) r) (eval (expr_of least) r) (eval (expr_of greatest) r)

-- whether it is NULL in a row
abbrev pub is_null_at : ExprTree → Row → Truth
is_null_at e r = truth_of (is_null (eval (expr_of e) r))

-- whether it is like a pattern in a row
abbrev pub is_liked_at : ExprTree → List ℕ → Row → Truth
is_liked_at e pattern r = liked (eval (expr_of e) r) pattern

-- whether it equals that of one of the choices in a row
abbrev pub is_one_at : ExprTree → List ExprTree → Row → Truth
is_one_at e choices r = equals_one (eval (expr_of e) r) (map expr_of choices) r
