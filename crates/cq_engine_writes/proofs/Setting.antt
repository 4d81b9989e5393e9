-- The images of rows under SET fit the columns where their values may be stored.
use Rattle.std.proofs.Common.{◌≡◌, ◌^◌, ℕ, ℤ, neg_ℤ, pos, zero, suc, Bool, true, false, not, List, [], ◌∷◌, None, refl, arith}
use Rattle.std.specs.Prelude.{◌&&◌, ◌||◌, FitsSigned, int_lt, slice_set}
use Rattle.std.specs.Int.{w64}
use Rattle.std.specs.List.{AllByRecursion, flat_map, list_any}
use Rattle.std.proofs.lemmas.Int.{ints}
use Rattle.cq_values.specs.declared.column.ColumnDef.{ColumnDef}
use Rattle.cq_values.specs.declared.value.Value.{Value}
use Rattle.cq_values.specs.declared.value.Value.TheVariants.{Null, Number, Day, Text}
use Rattle.cq_values.specs.Value.{Row}
use Rattle.cq_model_bags.proofs.Totals.{by_test}
use Rattle.cq_model.specs.declared.assignment.Assignment.{Assignment}
use Rattle.cq_model.specs.Eval.{eval}
use Rattle.cq_model.specs.Write.{image_of, with_set}
use Rattle.cq_binder_rules.specs.declared.fault.Fault.{Fault}
use Rattle.cq_binder_rules.specs.declared.fault.Fault.TheVariants.{NumberOutside, NullNotAllowed}
use Rattle.cq_binder_rules.specs.Checks.{fault_if, first_fault}
use Rattle.cq_binder_rules.specs.UpdateChecks.{is_null, is_outside, never_null, value_checks}
use Rattle.cq_binder_expressions.specs.Types.{IsOf}
use Rattle.cq_model_state.specs.Fitting.{FitsColumn, FitsColumns}
use Rattle.cq_table.proofs.RowLists.{turned}
use Rattle.cq_engine_writes.specs.Updates.{CanSetAll, declared_type}
use Rattle.cq_engine_writes.proofs.Checks.{back_free, first_free, front_free}
use Rattle.cq_model_bags.proofs.Lists.{all-both}

-- ---- Values that may be stored
-- a number that is not outside has 64 bits with a sign
inside_fits : (n : ℤ) → (int_lt n (neg_ℤ (pos (2 ^ 63))) || not (int_lt n (pos (2 ^ 63)))) ≡ false → FitsSigned w64 n
inside_fits n h = grind (arith, ints, h)

-- NULL may be stored where the column is not NOT NULL
null_fits : (b : Bool) → (b && true) ≡ false → b ≡ false
null_fits true h = absurd (cc h)
null_fits false h = refl

value_fits : (d : ColumnDef) (v : Value) → IsOf d.ty v → is_outside v ≡ false → (d.not_null && is_null v) ≡ false → FitsColumn d v
value_fits d Null of inside some = null_fits d.not_null some
value_fits d (Number n) of inside some = (of, inside_fits n inside)
value_fits d (Day n) of inside some = of
value_fits d (Text t) of inside some = of

-- a value may be stored in the column at a place
abbrev pub FitsAt : List ColumnDef → ℕ → Value → Type 0
FitsAt columns c v = IsOf (declared_type columns c) v × (is_outside v ≡ false) × ((never_null columns c && is_null v) ≡ false)

set_fits : (columns : List ColumnDef) (row : Row) (c : ℕ) (v : Value) → FitsColumns columns row → FitsAt columns c v → FitsColumns columns (slice_set row c v)
set_fits [] [] c v fits at = tt
set_fits [] (x ∷ row) c v fits at = absurd fits
set_fits (d ∷ columns) [] c v fits at = absurd fits
set_fits (d ∷ columns) (x ∷ row) zero v fits at = (value_fits d v at.0 at.1 at.2, fits.1)
set_fits (d ∷ columns) (x ∷ row) (suc c) v fits at = (fits.0, set_fits columns row c v fits.1 at)

image_fits : (columns : List ColumnDef) (assignments : List Assignment) (old row : Row) → FitsColumns columns row → AllByRecursion (λ (a : Assignment). FitsAt columns a.column (eval a.value old)) assignments → FitsColumns columns (with_set assignments old row)
image_fits columns [] old row fits at = fits
image_fits columns (a ∷ later) old row fits at = image_fits columns later old (slice_set row a.column (eval a.value old)) (set_fits columns row a.column (eval a.value old) fits at.0) at.1

-- ---- Rows whose values were checked
-- a check without a fault
if_free : (b : Bool) (f : Fault) → fault_if b f ≡ None → b ≡ false
if_free true f e = absurd (cc e)
if_free false f e = refl

none_any : (p : Row → Bool) (rows : List Row) → list_any p rows ≡ false → AllByRecursion (λ r. p r ≡ false) rows
none_any p [] h = tt
none_any p (r ∷ rows) h = by_test (p r) (λ k. absurd (cc (rw k at h))) (λ k. (k, none_any p rows (rw k at h)))

none_and : (b : Bool) (p : Row → Bool) (rows : List Row) → (b && list_any p rows) ≡ false → AllByRecursion (λ r. (b && p r) ≡ false) rows
none_and true p rows h = none_any p rows h
none_and false p [] h = tt
none_and false p (r ∷ rows) h = (refl, none_and false p rows refl)

-- the value of an assignment in a row may be stored, as far as the rows decide
abbrev MayStand : List ColumnDef → Assignment → Row → Type 0
MayStand columns a r = (is_outside (eval a.value r) ≡ false) × ((never_null columns a.column && is_null (eval a.value r)) ≡ false)

module _ (columns : List ColumnDef) (rows : List Row) where
  one_free : (a : Assignment) → first_fault (value_checks columns rows a) ≡ None → AllByRecursion (MayStand columns a) rows
  one_free a free =
      let outside = fault_if (list_any (λ r. is_outside (eval a.value r)) rows) NumberOutside in
      let null = fault_if (never_null columns a.column && list_any (λ r. is_null (eval a.value r)) rows) NullNotAllowed in
      all-both (λ r. is_outside (eval a.value r) ≡ false) (λ r. (never_null columns a.column && is_null (eval a.value r)) ≡ false) (MayStand columns a) (λ r inside there. (inside, there)) rows
      (none_any (λ r. is_outside (eval a.value r)) rows (if_free (list_any (λ r. is_outside (eval a.value r)) rows) NumberOutside (first_free outside (null ∷ []) free)))
      (none_and (never_null columns a.column) (λ r. is_null (eval a.value r)) rows
      (if_free (never_null columns a.column && list_any (λ r. is_null (eval a.value r)) rows) NullNotAllowed (first_free null [] (back_free (outside ∷ []) (null ∷ []) free))))

  all_free : (assignments : List Assignment) → first_fault (flat_map (value_checks columns rows) assignments) ≡ None → AllByRecursion (λ a. AllByRecursion (MayStand columns a) rows) assignments
  all_free [] free = tt
  all_free (a ∷ later) free =
      let rest = flat_map (value_checks columns rows) later in
      (one_free a (front_free (value_checks columns rows a) rest free), all_free later (back_free (value_checks columns rows a) rest free))

-- a typed value that may stand fits
each_at : (columns : List ColumnDef) (assignments : List Assignment) (r : Row) → CanSetAll columns assignments r → AllByRecursion (λ a. MayStand columns a r) assignments → AllByRecursion (λ (a : Assignment). FitsAt columns a.column (eval a.value r)) assignments
each_at columns [] r can may = tt
each_at columns (a ∷ later) r can may = ((can.0.typed, may.0.0, may.0.1), each_at columns later r can.1 may.1)

images_fit : (columns : List ColumnDef) (assignments : List Assignment) (rows : List Row) → AllByRecursion (FitsColumns columns) rows → AllByRecursion (CanSetAll columns assignments) rows → AllByRecursion (λ r. AllByRecursion (λ a. MayStand columns a r) assignments) rows
    → AllByRecursion (λ r. FitsColumns columns (image_of assignments r)) rows
images_fit columns assignments [] fits can may = tt
images_fit columns assignments (r ∷ rows) fits can may =
    (image_fits columns assignments r r fits.0 (each_at columns assignments r can.0 may.0), images_fit columns assignments rows fits.1 can.1 may.1)

-- the images of rows whose values have no fault fit the columns
pub checked_fit : (columns : List ColumnDef) (assignments : List Assignment) (rows : List Row) → AllByRecursion (FitsColumns columns) rows → AllByRecursion (CanSetAll columns assignments) rows → first_fault (flat_map (value_checks columns rows) assignments) ≡ None
    → AllByRecursion (λ r. FitsColumns columns (image_of assignments r)) rows
checked_fit columns assignments rows fits can free = images_fit columns assignments rows fits can (turned (MayStand columns) assignments rows (all_free columns rows assignments free))
