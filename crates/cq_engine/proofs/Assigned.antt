-- An UPDATE whose walk has no fault can be worked out on the rows of its table.
use Rattle.std.proofs.Common.{◌≡◌, ℕ, zero, suc, Bool, true, false, List, [], ◌∷◌, ◌++◌, map, Option, None, Result, refl, sym, ap, subst}
use Rattle.std.specs.Prelude.{slice_index_or, unwrap_or}
use Rattle.std.specs.List.{AllByRecursion}
use denote.Enum.Bare.{same_true}
use Rattle.cq_values.specs.contracts.ty.Ty as ty
use Rattle.cq_values.specs.declared.column.ColumnDef.{ColumnDef}
use Rattle.cq_values.specs.declared.ty.Ty.{Ty}
use Rattle.cq_values.specs.declared.ty.Ty.TheVariants as types
use Rattle.cq_values.specs.declared.value.Value.{Value}
use Rattle.cq_values.specs.declared.value.Value.TheVariants.{Null, Number, Day, Text}
use Rattle.cq_values.specs.Value.{Row, column}
use Rattle.cq_model.specs.Sizes.{IsStored}
use Rattle.cq_sql_language.specs.declared.statement.SetClause.{SetClause}
use Rattle.cq_sql_language.specs.Written.{Written}
use Rattle.cq_model.specs.Eval.{eval}
use Rattle.cq_model.specs.Width.{sizes_of}
use Rattle.cq_binder_rules.specs.declared.fault.Fault.{Fault}
use Rattle.cq_binder_rules.specs.declared.fault.Fault.TheVariants.{NameTaken, TypeMismatch}
use Rattle.cq_binder_rules.specs.declared.typing.Kind.{Kind}
use Rattle.cq_binder_rules.specs.declared.typing.Kind.TheVariants as kinds
use Rattle.cq_binder_rules.specs.declared.typing.Typing.{Typing}
use Rattle.cq_binder_rules.specs.Checks.{fault_if, first_fault}
use Rattle.cq_binder_rules.specs.Kinds.{◌and_then◌, is_of, of_type, unless}
use Rattle.cq_binder_rules.specs.Places.{named_place}
use Rattle.cq_binder_rules.specs.Scopes.{bound_value, from_table, of_rows, scope_of}
use Rattle.cq_binder_rules.specs.Sets.{bound_set, bound_sets, bound_where}
use Rattle.cq_binder_rules.specs.SourceChecks.{where_check}
use Rattle.cq_binder_rules.specs.Typing.{Scope, fault_in, type_at, typed}
use Rattle.cq_binder_rules.specs.UpdateChecks.{column_check, column_type, is_set, set_check, set_checks, type_check, update_walk}
use Rattle.cq_binder_expressions.specs.Expressions.{KeepSizes}
use Rattle.cq_binder_expressions.specs.Types.{IsOf, IsOfKind, KeepTypes}
use Rattle.cq_binder_expressions.proofs.Typed.{typed_is_of_its_kind}
use Rattle.cq_model_state.specs.Fitting.{FitsColumn, FitsColumns, IsFitting}
use Rattle.cq_model_state.specs.State.{TableOf}
use Rattle.cq_engine_writes.specs.Updates.{CanSet, CanSetAll, CanUpdate, declared_type}
use Rattle.cq_engine_writes.proofs.Checks.{back_free, first_free, front_free}
use Rattle.cq_engine.proofs.Fitting.{narrow_over, narrow_rows, passed, read_columns, stored_keep, stored_keeps}
use Rattle.cq_engine_tables.proofs.Stored.{rows_stored}

-- a value of a kind that is of a type is of that type
of_kind : (t : Ty) (k : Kind) (v : Value) → is_of t k ≡ true → IsOfKind k v → IsOf t v
of_kind t kinds.Condition v of is = absurd (cc of)
of_kind t kinds.Null v of is = subst (λ (u : Value). IsOf t u) (sym is) tt
of_kind t (kinds.Value u) v of is = subst (λ (x : Ty). IsOf x v) (same_true ty.the_type tt u t of) is

-- a value of a row that fits is of its column's type
pub type_kept : (columns : List ColumnDef) (row : Row) (i : ℕ) → FitsColumns columns row → IsOf (declared_type columns i) (column row i)
type_kept [] [] i fits = tt
type_kept [] (v ∷ row) i fits = absurd fits
type_kept (d ∷ columns) [] i fits = absurd fits
type_kept (d ∷ columns) (v ∷ row) zero fits = own v fits.0
  where
    own : (u : Value) → FitsColumn d u → IsOf d.ty u
    own Null h = tt
    own (Number n) h = h.0
    own (Day n) h = h
    own (Text t) h = h
type_kept (d ∷ columns) (v ∷ row) (suc i) fits = type_kept columns row i fits.1

-- what is stored is of the column's type
type_met : (t : Ty) (x : Typing) → fault_in (of_type t x) ≡ None → is_of t x.kind ≡ true
type_met t x free = met (is_of t x.kind) refl free
  where
    met : (b : Bool) → is_of t x.kind ≡ b → fault_in (unless b TypeMismatch x) ≡ None → is_of t x.kind ≡ true
    met true e f = e
    met false e f = absurd (cc f)

-- the columns of a table are read by their types
types_read : (known : List ℕ) (columns : List ColumnDef) → map (λ c. c.ty) (read_columns known columns) ≡ map (λ c. c.ty) columns
types_read known [] = refl
types_read known (d ∷ columns) = ap (λ (ts : List Ty). d.ty ∷ ts) (types_read known columns)

type_read : (known : List ℕ) (columns : List ColumnDef) (place : ℕ) → type_at (read_columns known columns) place ≡ declared_type columns place
type_read known columns place = ap (λ (ts : List Ty). slice_index_or ts place types.Integer) (types_read known columns)

module _ (known : List ℕ) (columns : List ColumnDef) (row : Row) where
  abbrev read : Scope
  read = of_rows (read_columns known columns)

  module _ (sizes : KeepSizes read (sizes_of row)) (kept : KeepTypes (read_columns known columns) row) where
    set_can : (a : SetClause) → type_check read a ≡ None → CanSet columns row (bound_set read a)
    set_can a free =
        let t = column_type read.columns a.column in
        let p = passed (of_type t) (typed read a.value) free in
        let of : fault_in (of_type t p.0) ≡ None = subst (λ (r : Result Typing Fault). fault_in (r and_then of_type t) ≡ None) p.1 free in
        record {
          narrow = (narrow_over (read_columns known columns) a.value p.0 (sizes_of row) p.1 sizes).value;
          typed =
              subst (λ (u : Ty). IsOf u (eval (bound_value read a.value) row)) (type_read known columns (unwrap_or (named_place read.columns a.column) 0))
              (of_kind t p.0.kind (eval (bound_value read a.value) row) (type_met t p.0 of) (typed_is_of_its_kind (read_columns known columns) a.value p.0 row p.1 kept));
        }

    sets_can : (before sets : List SetClause) → first_fault (set_checks read before sets) ≡ None → CanSetAll columns (bound_sets read sets) row
    sets_can before [] free = tt
    sets_can before (a ∷ later) free =
        let rest = set_checks read (before ++ a ∷ []) later in
        let front : List (Option Fault) = column_check read.columns a.column ∷ fault_in (typed read a.value) ∷ fault_if (is_set before a.column) NameTaken ∷ [] in
        let own : first_fault (set_check read before a) ≡ None = front_free (set_check read before a) rest free in
        (set_can a (first_free (type_check read a) [] (back_free front (type_check read a ∷ []) own)), sets_can (before ++ a ∷ []) later (back_free (set_check read before a) rest free))

-- a row that fits keeps the types of its table's columns
types_kept : (t : TableOf) (row : Row) → FitsColumns t.columns row → KeepTypes (read_columns t.name t.columns) row
types_kept t row fits place within =
    subst (λ (u : Ty). IsOf u (column row place)) (sym (type_read t.name t.columns place)) (type_kept t.columns row place fits)

module _ (t : TableOf) (sets : List SetClause) where
  abbrev s : Scope
  s = scope_of (from_table t)

  rows_can : (rows : List Row) → AllByRecursion (FitsColumns t.columns) rows → AllByRecursion IsStored rows → first_fault (set_checks s [] sets) ≡ None → AllByRecursion (CanSetAll t.columns (bound_sets s sets)) rows
  rows_can [] fits stored free = tt
  rows_can (row ∷ rows) fits stored free = (sets_can t.name t.columns row (stored_keeps t.name t row stored.0) (types_kept t row fits.0) [] sets free, rows_can rows fits.1 stored.1 free)

  -- where the walk has no fault
  pub update_fits : (condition : Option Written) → first_fault (update_walk condition sets s) ≡ None → IsFitting t → CanUpdate t.columns (bound_sets s sets) (bound_where s condition) t.rows
  update_fits condition free fitting =
      let stored = rows_stored t.columns t.rows fitting in
      record {
        narrow = narrow_rows (read_columns t.name t.columns) condition t.rows (first_free (where_check s condition) (set_checks s [] sets) free) (stored_keep t.name t t.rows stored);
        sets = rows_can t.rows fitting stored (back_free (where_check s condition ∷ []) (set_checks s [] sets) free);
      }
