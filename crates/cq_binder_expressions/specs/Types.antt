-- Values of types: what an expression gives in a row whose values are of their columns' types.
use Rattle.std.specs.Prelude.{◌≡◌, ◌<◌, ◌≤◌, ℕ, List, length, Ok}
use Rattle.cq_values.specs.declared.ty.Ty.{Ty}
use Rattle.cq_values.specs.declared.ty.Ty.TheVariants as types
use Rattle.cq_values.specs.declared.value.Value.{Value}
use Rattle.cq_values.specs.declared.value.Value.TheVariants.{Null, Number, Day, Text}
use Rattle.cq_values.specs.Value.{Row, column}
use Rattle.cq_sql_language.specs.Written.{Written}
use Rattle.cq_model.specs.Eval.{eval}
use Rattle.cq_model.specs.Sizes.{text_limit}
use Rattle.cq_binder_rules.specs.declared.typing.Kind.{Kind}
use Rattle.cq_binder_rules.specs.declared.typing.Kind.TheVariants as kinds
use Rattle.cq_binder_rules.specs.declared.typing.Typing.{Typing}
use Rattle.cq_binder_rules.specs.Scopes.{bound_value, of_rows}
use Rattle.cq_binder_rules.specs.Typing.{ScopeColumn, type_at, typed}

-- a value of a type, and a text that is not too long; NULL is one of every type
abbrev pub IsOf : Ty → Value → Type 0
IsOf ty Null = Unit {0}
IsOf ty (Number n) = ty ≡ types.Integer
IsOf ty (Day n) = ty ≡ types.Date
IsOf ty (Text t) = (ty ≡ types.Text) × (length t ≤ text_limit)

-- a value of a kind; NULL stands for a condition, which is no value
abbrev pub IsOfKind : Kind → Value → Type 0
IsOfKind (kinds.Value ty) v = IsOf ty v
IsOfKind kind v = v ≡ Null

-- what each column of a row holds is of the column's type
abbrev pub KeepTypes : List ScopeColumn → Row → Type 0
KeepTypes columns row = (place : ℕ) → place < length columns → IsOf (type_at columns place) (column row place)

-- the value of what has no fault over rows is of the kind that the walk tells, wherever the columns keep their types
abbrev pub TypedIsOfItsKind : Type 0
TypedIsOfItsKind =
    (columns : List ScopeColumn) (w : Written) (t : Typing) (row : Row)
    → typed (of_rows columns) w ≡ Ok t → KeepTypes columns row → IsOfKind t.kind (eval (bound_value (of_rows columns) w) row)
