-- A write of one table: what it leaves of the table of its number, and of all tables.
use Rattle.std.proofs.Common.{◌≡◌, ◌+◌, ◌≤◌, ◌<◌, ℕ, Bool, not, List, [], ◌++◌, length, get_or, set, Option, Result, Ok, Err, sym, ap, ◌∙◌, arith, subst}
use Rattle.std.specs.Prelude.{None}
use Rattle.std.specs.Result.{OnOk}
use Rattle.std.specs.List.{AllByRecursion}
use Rattle.std.proofs.lemmas.List.{append-nil, length-append}
use Rattle.cq_values.specs.Value.{Row}
use Rattle.cq_binder_rules.specs.declared.fault.Fault.{Fault}
use Rattle.cq_binder_rules.specs.Checks.{MayRefuse}
use Rattle.cq_model.specs.Expr.{Cond}
use Rattle.cq_model.specs.Meaning.{keeps}
use Rattle.cq_model.specs.Write.{left_by}
use Rattle.cq_model_state.specs.Fitting.{FitsColumns, AreLimited, AreFitting}
use Rattle.cq_model_state.specs.State.{TableOf, AreNumbered, columns_in, holding, rows_in, with_rows}
use Rattle.cq_engine_writes.specs.Writing.{Inserts, InsertsRows, deleted_from, inserted_into, room_for}
use Rattle.cq_engine_writes.proofs.Checks.{few-enough}
use Rattle.cq_engine_tables.proofs.Numbers.{set-number}
use Rattle.cq_engine_tables.proofs.Rows.{bounded-with_rows, fitting-with_rows, fitting_in, rows_have, rows_numbered}
use Rattle.cq_table.specs.Checks.{too_many}
use Rattle.cq_model_bags.proofs.Lists.{all-append, all-filter, fewer}

-- where none come in place of those that go, the others are left alone
pub left_alone : (t u : TableOf) (condition : Option Cond) → u ≡ holding (left_by condition t.rows ++ []) t → u ≡ holding (left_by condition t.rows) t
left_alone t u condition is = is ∙ ap (λ (rs : List Row). holding rs t) (append-nil (left_by condition t.rows))

-- ---- The table of a number, where the one at its place was written
-- an accepted INSERT put its rows behind those of the table
pub inserted_rows : {X : Type 0} (max_rows : ℕ) (rows : List Row) (t u : TableOf) (result : Result X Fault) → InsertsRows max_rows rows t result u → OnOk result (u ≡ holding (t.rows ++ rows) t)
inserted_rows max_rows rows t u (Ok x) w = w.1
inserted_rows max_rows rows t u (Err f) w = tt

module _ (next : ℕ) (tables : List TableOf) (i : ℕ) (t : TableOf) (numbered : AreNumbered tables next) (within : i < length tables) (is : t ≡ get_or tables i t) (n : ℕ) (number : (get_or tables i t).number ≡ n) where
  own_number : t.number ≡ n
  own_number = ap (λ (y : TableOf). y.number) is ∙ number

  own_rows : rows_in tables n ≡ t.rows
  own_rows = rows_numbered tables i t next n numbered within is number

  -- what holds of the number and the rows of this table holds of the number and its rows
  pub so_numbered : (P : ℕ → List Row → Type 0) → P t.number t.rows → P n (rows_in tables n)
  so_numbered P here = subst (λ (m : ℕ). P m (rows_in tables n)) own_number (subst (λ (rs : List Row). P t.number rs) (sym own_rows) here)

  -- the table of the number has the rows that were written at its place
  pub written_here : (u : TableOf) (rows : List Row → List Row) → u ≡ holding (rows t.rows) t → set tables i u ≡ with_rows n (rows (rows_in tables n)) tables
  written_here u rows w =
      ap (set tables i) w ∙ set-number n (rows t.rows) tables i next t numbered within is own_number ∙ ap (λ (rs : List Row). with_rows n (rows rs) tables) (sym own_rows)

  pub written-number : {X E : Type 0} (u : TableOf) (rows : List Row → List Row) (result : Result X E) → OnOk result (u ≡ holding (rows t.rows) t) → OnOk result (set tables i u ≡ with_rows n (rows (rows_in tables n)) tables)
  written-number u rows (Ok x) w = written_here u rows w
  written-number u rows (Err e) w = tt

  -- what may be put into the table was put into the one of the number
  pub inserts_here : {X : Type 0} (max_rows : ℕ) (rows : List Row) (u : TableOf) (result : Result X Fault) → InsertsRows max_rows rows t result u → Inserts max_rows n rows tables result (set tables i u)
  inserts_here max_rows rows u (Ok x) w = (
    subst (λ (rs : List Row). too_many max_rows (length rs + length rows) ≡ None) (sym own_rows) w.0,
    written_here u (λ rs. rs ++ rows) w.1,
  )
  inserts_here max_rows rows u (Err f) w = subst (λ (rs : List Row). MayRefuse (too_many max_rows (length rs + length rows)) f) (sym own_rows) w

-- ---- The rows of the table of a number, with those that come and without those that go
module _ (n : ℕ) where
  module _ (rows : List Row) (tables : List TableOf) where
    pub inserted_fit : (next : ℕ) → AreNumbered tables next → AreFitting tables → AllByRecursion (FitsColumns (columns_in tables n)) rows → AreFitting (inserted_into n rows tables)
    inserted_fit next numbered fitting own =
        fitting-with_rows n (rows_in tables n ++ rows) tables next numbered fitting (all-append (FitsColumns (columns_in tables n)) (rows_in tables n) rows (fitting_in n tables fitting) own)

    pub inserted_bounded : (most : ℕ) → room_for most tables n rows ≡ None → AreLimited most tables → AreLimited most (inserted_into n rows tables)
    inserted_bounded most room bounded =
        bounded-with_rows n (rows_in tables n ++ rows) most tables
        (omega (arith, few-enough most (length (rows_in tables n) + length rows) room, length-append (rows_in tables n) rows)) bounded

  module _ (condition : Option Cond) (tables : List TableOf) where
    abbrev stay : Row → Bool
    stay row = not (keeps condition row)

    pub left_fit : (next : ℕ) → AreNumbered tables next → AreFitting tables → AreFitting (deleted_from n condition tables)
    left_fit next numbered fitting =
        fitting-with_rows n (left_by condition (rows_in tables n)) tables next numbered fitting (all-filter (FitsColumns (columns_in tables n)) stay (rows_in tables n) (fitting_in n tables fitting))

    pub left_bounded : (most : ℕ) → AreLimited most tables → AreLimited most (deleted_from n condition tables)
    left_bounded most bounded =
        bounded-with_rows n (left_by condition (rows_in tables n)) most tables
        (omega (arith, fewer stay (rows_in tables n), rows_have (λ rs. length rs ≤ most) (omega arith) tables n bounded)) bounded
