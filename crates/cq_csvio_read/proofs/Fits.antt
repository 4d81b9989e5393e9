-- The rows that a file makes in columns fit them.
use Rattle.std.proofs.Common.{◌≡◌, ℕ, ◌+◌, ◌==◌, ℤ, pos, neg_ℤ, Bool, true, false, List, [], ◌∷◌, length, Option, Some, None, Result, Ok, Err, refl, subst, inl, inr, FitsSigned, arith}
use Rattle.std.proofs.lemmas.Bool.{cases_Bool, eqb-true, leb-true, not-true}
use Rattle.std.proofs.lemmas.Int.{ints}
use Rattle.std.specs.Int.{w64}
use Rattle.std.specs.List.{AllByRecursion}
use Rattle.std.specs.Prelude.{◌&&◌, int_le, int_lt, nat_le, not, ok_or, option_map}
use Rattle.std.specs.Str.{is_utf8}
use Rattle.cq_values.specs.Dates.{day_named}
use Rattle.cq_values.specs.Value.{Row}
use Rattle.cq_values.specs.declared.column.ColumnDef.{ColumnDef}
use Rattle.cq_values.specs.declared.ty.Ty.{Ty}
use Rattle.cq_values.specs.declared.ty.Ty.TheVariants as types
use Rattle.cq_values.specs.declared.value.Value.{Value}
use Rattle.cq_values.specs.declared.value.Value.TheVariants as values
use Rattle.cq_model.specs.Sizes.{stored_size, text_limit}
use Rattle.cq_values.specs.Printed.{is_escaped}
use Rattle.cq_model_state.specs.Fitting.{FitsColumn, FitsColumns}
use Rattle.cq_binder_rules.specs.declared.fault.Fault.{Fault}
use Rattle.cq_binder_rules.specs.declared.fault.Fault.TheVariants.{BadDate, BadRecord, NullNotAllowed, TextTooLong}
use Rattle.cq_binder_rules.specs.Fields.{field_number, field_value, is_null_field, stored_number, text_in, typed_field}
use Rattle.cq_binder_rules.specs.Kinds.{◌and_then◌, unless}
use Rattle.cq_binder_rules.specs.Records.{field_values, file_records, file_rows, record_row, record_rows}
use Rattle.cq_csvio_read.proofs.Walk.{before}

ok_same : {A : Type 0} (x y : A) → ◌≡◌ {A = Result A Fault} (Ok x) (Ok y) → x ≡ y
ok_same x y e = cc e

-- what is given under a condition meets it
taken : {A : Type 0} (met : Bool) (f : Fault) (x y : A) → unless met f x ≡ Ok y → (met ≡ true) × (x ≡ y)
taken true f x y e = (refl, ok_same x y e)
taken false f x y e = absurd (cc e)

-- a list that is given has its first entry and those behind it
before_ok : {A : Type 0} (first : Result A Fault) (rest : Result (List A) Fault) (whole : List A) → before first rest ≡ Ok whole
    → (x : A) × (more : List A) × (first ≡ Ok x) × (rest ≡ Ok more) × (x ∷ more ≡ whole)
before_ok (Err f) rest whole e = absurd (cc e)
before_ok (Ok x) (Err f) whole e = absurd (cc e)
before_ok (Ok x) (Ok more) whole e = (x, more, refl, refl, ok_same (x ∷ more) whole e)

number_fits : (n : ℤ) → (int_le (neg_ℤ (pos stored_size)) n && int_lt n (pos stored_size)) ≡ true → FitsSigned w64 n
number_fits n e = grind (arith, ints)

-- a field that is taken in a column of a type
typed_fits : (at : ℕ) (d : ColumnDef) (ty : Ty) (t : List ℕ) (v : Value) → d.ty ≡ ty → typed_field at ty t ≡ Ok v → FitsColumn d v
typed_fits at d types.Integer t v is e = by_number (field_number t) e
  where
    by_number : (o : Option ℤ) → (ok_or o (BadRecord at) and_then stored_number) ≡ Ok v → FitsColumn d v
    by_number None e = absurd (cc e)
    by_number (Some n) e =
        let k = taken (int_le (neg_ℤ (pos stored_size)) n && int_lt n (pos stored_size)) _ (values.Number n) v e in
        subst (λ (w : Value). FitsColumn d w) k.1 (is, number_fits n k.0)
typed_fits at d types.Text t v is e =
    let k = taken (nat_le (length (text_in t)) text_limit) TextTooLong (values.Text (text_in t)) v e in
    subst (λ (w : Value). FitsColumn d w) k.1 (is, leb-true _ _ k.0)
typed_fits at d types.Date t v is e = elim (cases_Bool (is_escaped t)) [
  | inl k ↦ absurd (cc (rw k at e))
  | inr k ↦ by_day (day_named t) (rw k at e)
]
  where
    by_day : (o : Option ℤ) → ok_or (option_map values.Day o) BadDate ≡ Ok v → FitsColumn d v
    by_day None e = absurd (cc e)
    by_day (Some n) e = subst (λ (w : Value). FitsColumn d w) (ok_same (values.Day n) v e) is

-- a field that is taken is a value that fits its column
value_fits : (at : ℕ) (d : ColumnDef) (t : List ℕ) (v : Value) → field_value at d t ≡ Ok v → FitsColumn d v
value_fits at d t v e = elim (cases_Bool (is_utf8 t)) [
  | inl text ↦ elim (cases_Bool (is_null_field d.ty t)) [
    | inl null ↦
        let k = taken (not d.not_null) NullNotAllowed values.Null v (rw (text, null) at e) in
        subst (λ (w : Value). FitsColumn d w) k.1 (not-true d.not_null k.0)
    | inr there ↦ typed_fits at d d.ty t v refl (rw (text, there) at e)
  ]
  | inr broken ↦ absurd (cc (rw broken at e))
]

row_fits : (at : ℕ) (columns : List ColumnDef) (fields : List (List ℕ)) (row : Row) → length fields ≡ length columns → field_values at columns fields ≡ Ok row → FitsColumns columns row
row_fits at [] [] row same e = subst (λ (r : Row). FitsColumns [] r) (ok_same [] row e) tt
row_fits at (d ∷ columns) [] row same e = absurd (omega (arith, same))
row_fits at [] (t ∷ fields) row same e = absurd (omega (arith, same))
row_fits at (d ∷ columns) (t ∷ fields) row same e =
    let k = before_ok (field_value at d t) (field_values at columns fields) row e in
    subst (λ (r : Row). FitsColumns (d ∷ columns) r) k.4 (value_fits at d t k.0 k.2, row_fits at columns fields k.1 (omega (arith, same)) k.3)

record_fits : (columns : List ColumnDef) (at : ℕ) (fields : List (List ℕ)) (row : Row) → record_row columns at fields ≡ Ok row → FitsColumns columns row
record_fits columns at fields row e = elim (cases_Bool (length fields == length columns)) [
  | inl same ↦ row_fits at columns fields row (eqb-true _ _ same) (rw same at e)
  | inr other ↦ absurd (cc (rw other at e))
]

records_fit : (columns : List ColumnDef) (at : ℕ) (records : List (List (List ℕ))) (rows : List Row) → record_rows columns at records ≡ Ok rows → AllByRecursion (FitsColumns columns) rows
records_fit columns at [] rows e = subst (λ (r : List Row). AllByRecursion (FitsColumns columns) r) (ok_same [] rows e) tt
records_fit columns at (fields ∷ records) rows e =
    let k = before_ok (record_row columns at fields) (record_rows columns (at + 1) records) rows e in
    subst (λ (r : List Row). AllByRecursion (FitsColumns columns) r) k.4 (record_fits columns at fields k.0 k.2, records_fit columns (at + 1) records k.1 k.3)

-- the rows of a file fit the columns that they were read for
pub rows_fit : (columns : List ColumnDef) (bytes : List ℕ) (rows : List Row) → file_rows columns bytes ≡ Ok rows → AllByRecursion (FitsColumns columns) rows
rows_fit columns bytes rows e = records_fit columns 1 (file_records bytes) rows e
