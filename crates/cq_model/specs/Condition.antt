-- Whether a condition holds in a row (ISO 9075-2, 6.39).
use Rattle.std.specs.Prelude.{ℕ, List, map, fold}
use Rattle.std.specs.Str.{chars}
use Rattle.cq_values.specs.declared.value.Value.{Value}
use Rattle.cq_values.specs.declared.value.Value.TheVariants.{Text}
use Rattle.cq_values.specs.declared.truth.Truth.{Truth}
use Rattle.cq_values.specs.declared.truth.Truth.TheVariants.{False, Unknown}
use Rattle.cq_values.specs.Truth.{not_truth, and_truth, or_truth, truth_of}
use Rattle.cq_values.specs.Value.{Row}
pub use Rattle.cq_values.specs.Value.{is_null}
use Rattle.cq_values.specs.declared.comparison.Comparison.TheVariants.{Equal, LessOrEqual, GreaterOrEqual}
use Rattle.cq_model.specs.Expr.{Cond, Compare, IsNull, Between, In, Like, Not, And, Or}
use Rattle.cq_values.specs.Comparison.{compared}
use Rattle.cq_model.specs.Eval.{eval}
use Rattle.cq_model.specs.Like.{like}

-- LIKE compares character by character, and of NULL it is Unknown
abbrev pub liked : Value → List ℕ → Truth
liked (Text t) pattern = truth_of (like (chars pattern) (chars t))
liked v pattern = Unknown

-- BETWEEN is two comparisons, joined by AND
abbrev pub between : Value → Value → Value → Truth
between v least greatest = and_truth (compared GreaterOrEqual v least) (compared LessOrEqual v greatest)

-- True if one part is True, else Unknown if one is Unknown
abbrev pub any_of : List Truth → Truth
any_of ts = fold or_truth False ts

-- the truth of a condition in a row
abbrev pub holds : Cond → Row → Truth
holds (Compare c a b) r = compared c (eval a r) (eval b r)
holds (IsNull e) r = truth_of (is_null (eval e r))
holds (Between e a b) r = between (eval e r) (eval a r) (eval b r)
holds (In e es) r = any_of (map (λ x. compared Equal (eval e r) (eval x r)) es)
holds (Like e pattern) r = liked (eval e r) pattern
holds (Not c) r = not_truth (holds c r)
holds (And a b) r = and_truth (holds a r) (holds b r)
holds (Or a b) r = or_truth (holds a r) (holds b r)
