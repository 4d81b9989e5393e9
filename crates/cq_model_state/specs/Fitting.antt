-- Rows that fit the columns of their table (docs/LANGUAGE.md, Values).
use Rattle.std.specs.Prelude.{◌≡◌, ◌≤◌, ◌^◌, ℕ, false, List, length, FitsSigned}
use Rattle.std.specs.Int.{w64}
use Rattle.std.specs.List.{AllByRecursion}
use Rattle.cq_values.specs.declared.column.ColumnDef.{ColumnDef}
use Rattle.cq_values.specs.declared.ty.Ty.TheVariants as types
use Rattle.cq_values.specs.declared.value.Value.{Value}
use Rattle.cq_values.specs.declared.value.Value.TheVariants.{Null, Number, Day, Text}
use Rattle.cq_values.specs.Value.{Row}
use Rattle.cq_model_state.specs.Pointwise.{Pointwise}
use Rattle.cq_model_state.specs.State.{TableOf}
use Rattle.cq_model.specs.Sizes.{text_limit}

-- a value of the column's type, a number of 64 bits or a text that is not too long; NULL but where NOT NULL stands
abbrev pub FitsColumn : ColumnDef → Value → Type 0
FitsColumn d (Number n) = (d.ty ≡ types.Integer) × FitsSigned w64 n
FitsColumn d (Day n) = d.ty ≡ types.Date
FitsColumn d (Text t) = (d.ty ≡ types.Text) × (length t ≤ text_limit)
FitsColumn d Null = d.not_null ≡ false

-- a row of as many values as there are columns, each of which fits the column at its place
abbrev pub FitsColumns : List ColumnDef → Row → Type 0
FitsColumns columns row = Pointwise FitsColumn columns row

-- each row of a table fits its columns
abbrev pub IsFitting : TableOf → Type 0
IsFitting t = AllByRecursion (FitsColumns t.columns) t.rows

abbrev pub AreFitting : List TableOf → Type 0
AreFitting tables = AllByRecursion IsFitting tables

-- no table may ever have more rows than this
abbrev pub rows_limit : ℕ
rows_limit = 2 ^ 30

-- no table has more rows than it may
abbrev pub AreLimited : ℕ → List TableOf → Type 0
AreLimited max_rows tables = AllByRecursion (λ t. length t.rows ≤ max_rows) tables
