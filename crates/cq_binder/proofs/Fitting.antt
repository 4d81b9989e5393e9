-- The rows of an INSERT that have no fault fit their columns.
use Rattle.std.proofs.Common.{◌≡◌, ◌^◌, ℤ, Bool, true, false, List, [], ◌∷◌, map, length, Option, Some, None, refl, sym, ap, ◌∙◌, arith, FitsSigned}
use Rattle.std.specs.Prelude.{◌==◌, nat_lt, is_none}
use Rattle.std.specs.Int.{w64}
use Rattle.std.specs.Option.{option_or}
use Rattle.std.specs.List.{AllByRecursion, flat_map}
use Rattle.std.proofs.lemmas.Bool.{eqb-true, leb-true, ltb-true, ltb-false}
use Rattle.std.proofs.lemmas.Int.{ints}
use Rattle.cq_values.specs.declared.column.ColumnDef.{ColumnDef}
use Rattle.cq_values.specs.declared.ty.Ty.{Ty}
use Rattle.cq_values.specs.declared.ty.Ty.TheVariants as types
use Rattle.cq_values.specs.declared.value.Value.TheVariants.{Day, Null}
use Rattle.cq_values.specs.Dates.{day_named}
use Rattle.cq_model_bags.proofs.Totals.{by_test}
use Rattle.cq_sql_language.specs.declared.statement.Constant.{Constant}
use Rattle.cq_sql_language.specs.declared.statement.Constant.TheVariants as constants
use Rattle.cq_sql_language.specs.declared.statement.Literal.{Literal}
use Rattle.cq_binder_rules.specs.declared.fault.Fault.{Fault}
use Rattle.cq_binder_rules.specs.Bound.{constant_value, literal_value, row_of}
use Rattle.cq_binder_rules.specs.Checks.{first_fault}
use Rattle.cq_binder_rules.specs.RowChecks.{fits_column, is_type, constant_check, constant_checks, row_checks}
use Rattle.cq_model_state.specs.Fitting.{FitsColumn, FitsColumns}
use Rattle.cq_binder_queries.proofs.Faults.{first_fault_append}

-- a type that passes the test is the one that is asked for
one_type : (t u : Ty) → is_type t u ≡ true → t ≡ u
one_type types.Integer types.Integer k = refl
one_type types.Integer types.Text k = absurd (cc k)
one_type types.Integer types.Date k = absurd (cc k)
one_type types.Text types.Integer k = absurd (cc k)
one_type types.Text types.Text k = refl
one_type types.Text types.Date k = absurd (cc k)
one_type types.Date types.Integer k = absurd (cc k)
one_type types.Date types.Text k = absurd (cc k)
one_type types.Date types.Date k = refl

-- a literal that fits a column has 64 bits with a sign
number_fits : (l : Literal) → fits_column l ≡ true → FitsSigned w64 (literal_value l)
number_fits l k = fitting l.is_negative refl
  where
    fitting : (b : Bool) → l.is_negative ≡ b → FitsSigned w64 (literal_value l)
    fitting true e = rw e (let small = leb-true l.magnitude (2 ^ 63) (rw e at k) in omega (arith, ints, small))
    fitting false e = rw e (let small = ltb-true l.magnitude (2 ^ 63) (rw e at k) in omega (arith, ints, small))

-- a day that is named is a value of its column
day_fits : (d : ColumnDef) (o : Option ℤ) → is_none o ≡ false → d.ty ≡ types.Date → FitsColumn d (elim o [ None ↦ Null | Some n ↦ Day n ])
day_fits d None named same = absurd (cc named)
day_fits d (Some n) named same = same

-- a constant that its column takes is a value that fits it
constant_fits : (d : ColumnDef) (c : Constant) → constant_check d c ≡ None → FitsColumn d (constant_value c)
constant_fits d constants.Null free = by_test d.not_null (λ k. absurd (cc (rw k at free))) (λ k. k)
constant_fits d (constants.Number l) free =
    by_test (is_type d.ty types.Integer)
    (λ typed. by_test (fits_column l) (λ fits. (one_type d.ty types.Integer typed, number_fits l fits)) (λ wide. absurd (cc (rw (typed, wide) at free))))
    (λ other. absurd (cc (rw other at free)))
constant_fits d (constants.Text t) free =
    by_test (is_type d.ty types.Text)
    (λ typed. by_test (nat_lt 4096 (length t)) (λ long. absurd (cc (rw (typed, long) at free))) (λ short. (one_type d.ty types.Text typed, ltb-false 4096 (length t) short)))
    (λ other. absurd (cc (rw other at free)))
constant_fits d (constants.Date t) free =
    by_test (is_type d.ty types.Date)
    (λ typed. by_test (is_none (day_named t)) (λ bad. absurd (cc (rw (typed, bad) at free))) (λ named. day_fits d (day_named t) named (one_type d.ty types.Date typed)))
    (λ other. absurd (cc (rw other at free)))

-- constants that their columns take fit them
constants_fit : (columns : List ColumnDef) (row : List Constant) → length row ≡ length columns → first_fault (constant_checks columns row) ≡ None → FitsColumns columns (row_of row)
constants_fit [] [] same free = tt
constants_fit (d ∷ columns) [] same free = absurd (omega (arith, same))
constants_fit [] (c ∷ row) same free = absurd (omega (arith, same))
constants_fit (d ∷ columns) (c ∷ row) same free = by_place (constant_check d c) refl (λ e. constants_fit columns row (omega (arith, same)) e)
  where
    by_place : (o : Option Fault) → constant_check d c ≡ o → (first_fault (constant_checks columns row) ≡ None → FitsColumns columns (row_of row)) → FitsColumns (d ∷ columns) (row_of (c ∷ row))
    by_place None e later = (constant_fits d c e, later (ap (λ (p : Option Fault). first_fault (p ∷ constant_checks columns row)) (sym e) ∙ free))
    by_place (Some f) e later = absurd (let both : Some f ≡ None = sym (ap (λ (p : Option Fault). first_fault (p ∷ constant_checks columns row)) e) ∙ free in cc)

-- a row that has no fault fits its columns
pub row_fits : (columns : List ColumnDef) (row : List Constant) → first_fault (row_checks columns row) ≡ None → FitsColumns columns (row_of row)
row_fits columns row free =
    by_test (length row == length columns)
    (λ k. constants_fit columns row (eqb-true _ _ k) (rw k at free))
    (λ k. absurd (cc (rw k at free)))

-- so do all rows of an INSERT that has none
pub rows_fit : (columns : List ColumnDef) (rows : List (List Constant)) → first_fault (flat_map (row_checks columns) rows) ≡ None → AllByRecursion (FitsColumns columns) (map row_of rows)
rows_fit columns [] free = tt
rows_fit columns (row ∷ rows) free = by_row (first_fault (row_checks columns row)) refl (λ e. rows_fit columns rows e)
  where
    split : first_fault (flat_map (row_checks columns) (row ∷ rows)) ≡ option_or (first_fault (row_checks columns row)) (first_fault (flat_map (row_checks columns) rows))
    split = first_fault_append (row_checks columns row) (flat_map (row_checks columns) rows)

    by_row : (o : Option Fault) → first_fault (row_checks columns row) ≡ o → (first_fault (flat_map (row_checks columns) rows) ≡ None → AllByRecursion (FitsColumns columns) (map row_of rows)) → AllByRecursion (FitsColumns columns) (map row_of (row ∷ rows))
    by_row None e later = (row_fits columns row e, later (sym (split ∙ ap (λ (o : Option Fault). option_or o (first_fault (flat_map (row_checks columns) rows))) e) ∙ free))
    by_row (Some f) e later = absurd (let both : Some f ≡ None = sym (split ∙ ap (λ (o : Option Fault). option_or o (first_fault (flat_map (row_checks columns) rows))) e) ∙ free in cc)
