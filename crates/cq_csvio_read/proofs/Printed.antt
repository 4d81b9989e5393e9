-- The rows of a table that are printed are read back as they were.
use Rattle.std.proofs.Common.{◌≡◌, ◌∙◌, ◌∷◌, [], ℕ, ◌+◌, ◌<◌, ◌≤◌, ◌==◌, List, false, refl, ap, inl, inr, length, map, ℤ, Ok, arith}
use Rattle.std.proofs.lemmas.Bool.{cases_Bool, eqb-true, le-leb, ne_eqb}
use Rattle.std.proofs.lemmas.Str.{IsUtf8-append, IsUtf8-from_ascii, IsUtf8-nil}
use Rattle.std.proofs.lemmas.Str.Ascii.{IsAscii-cons, IsAscii-nil}
use Rattle.std.specs.List.{AllByRecursion, flat_map}
use Rattle.std.specs.Prelude.{IsUtf8}
use Rattle.csv.specs.Reading.{strip_bom}
use Rattle.csv.specs.Writing.{read_back}
use Rattle.csv.specs.declared.parser.State.TheVariants as st
use Rattle.cq_values.specs.Days.{IsDay}
use Rattle.cq_values.specs.Value.{Row}
use Rattle.cq_values.specs.declared.column.ColumnDef.{ColumnDef}
use Rattle.cq_values.specs.declared.ty.Ty.TheVariants as types
use Rattle.cq_values.specs.declared.value.Value.{Value}
use Rattle.cq_values.specs.declared.value.Value.TheVariants as values
use Rattle.cq_model.specs.Sizes.{text_limit}
use Rattle.cq_values.specs.Printed.{date_text, is_escaped, row_text, value_text}
use Rattle.cq_model_state.specs.Fitting.{FitsColumn, FitsColumns}
use Rattle.cq_binder_rules.specs.Fields.{field_value, is_null_field, stored_text, text_in}
use Rattle.cq_binder_rules.specs.Records.{field_values, file_rows, record_row, record_rows}
use Rattle.cq_csvio_read.specs.Laws.{IsSound}
use Rattle.cq_csvio_read.specs.Records.{records_in}
use Rattle.cq_csvio_read.proofs.Dates.{IsDateOf, date_read}
use Rattle.cq_csvio_read.proofs.Fields.{field_typed, null_field}
use Rattle.cq_csvio_read.proofs.Lines.{lines_read, lines_written}
use Rattle.cq_csvio_read.proofs.NumberTexts.{number_ascii, number_read, number_there, starts_otherwise}
use Rattle.cq_csvio_read.proofs.Walk.{of_width}

null_read : (at : ℕ) (d : ColumnDef) → d.not_null ≡ false → field_value at d (92 ∷ 78 ∷ []) ≡ Ok values.Null
null_read at d free = null_field at d (92 ∷ 78 ∷ []) refl ∙ rw free refl

number_back : (at : ℕ) (d : ColumnDef) (n : ℤ) → FitsColumn d (values.Number n) → field_value at d (value_text (values.Number n)) ≡ Ok (values.Number n)
number_back at d n fits =
    field_typed at d (value_text (values.Number n)) (IsUtf8-from_ascii (value_text (values.Number n)) (number_ascii n fits.1)) types.Integer fits.0 (number_there n fits.1 d.ty) ∙ number_read n fits.1 at

day_back : (at : ℕ) (d : ColumnDef) (n : ℤ) → d.ty ≡ types.Date → IsDay n → field_value at d (date_text n) ≡ Ok (values.Day n)
day_back at d n is day = back (date_text n) (date_read n day)
  where
    back : (text : List ℕ) → IsDateOf n text → field_value at d text ≡ Ok (values.Day n)
    back text date =
        let other = date.first.3 in
        let there : is_null_field d.ty text ≡ false = rw date.first.2 (starts_otherwise d.ty date.first.0 date.first.1 other) in
        let plain : is_escaped text ≡ false = rw date.first.2 other in
        field_typed at d text (IsUtf8-from_ascii text date.ascii) types.Date is there ∙ rw (plain, date.names) refl

stored : (t : List ℕ) → length t ≤ text_limit → stored_text t ≡ Ok (values.Text t)
stored t short = rw (le-leb (length t) text_limit short) refl

module _ (at : ℕ) (d : ColumnDef) (is : d.ty ≡ types.Text) where
  -- a text that begins with a backslash has one more in front
  escaped_back : (b : ℕ) (bs : List ℕ) → b ≡ 92 → length (b ∷ bs) ≤ text_limit → IsUtf8 (b ∷ bs) → field_value at d (92 ∷ b ∷ bs) ≡ Ok (values.Text (b ∷ bs))
  escaped_back b bs backslash short text =
      let whole : IsUtf8 (92 ∷ b ∷ bs) = IsUtf8-append (92 ∷ []) (b ∷ bs) (IsUtf8-from_ascii (92 ∷ []) (IsAscii-cons 92 [] (omega arith) IsAscii-nil)) text in
      let there : is_null_field d.ty (92 ∷ b ∷ bs) ≡ false = rw (ne_eqb (length (92 ∷ b ∷ bs)) 0 (λ e. cc e), backslash) refl in
      let same : text_in (92 ∷ b ∷ bs) ≡ b ∷ bs = rw backslash refl in
      field_typed at d (92 ∷ b ∷ bs) whole types.Text is there ∙ rw same (stored (b ∷ bs) short)

  plain_back : (b : ℕ) (bs : List ℕ) → (b == 92) ≡ false → length (b ∷ bs) ≤ text_limit → IsUtf8 (b ∷ bs) → field_value at d (b ∷ bs) ≡ Ok (values.Text (b ∷ bs))
  plain_back b bs other short text =
      let same : text_in (b ∷ bs) ≡ b ∷ bs = rw other refl in
      field_typed at d (b ∷ bs) text types.Text is (starts_otherwise d.ty b bs other) ∙ rw same (stored (b ∷ bs) short)

  empty_back : field_value at d [] ≡ Ok (values.Text [])
  empty_back =
      let there : is_null_field d.ty [] ≡ false = rw is refl in
      field_typed at d [] IsUtf8-nil types.Text is there ∙ refl

  text_back : (t : List ℕ) → length t ≤ text_limit → IsUtf8 t → field_value at d (value_text (values.Text t)) ≡ Ok (values.Text t)
  text_back [] short text = empty_back
  text_back (b ∷ bs) short text = elim (cases_Bool (b == 92)) [
    | inl backslash ↦ rw backslash (escaped_back b bs (eqb-true b 92 backslash) short text)
    | inr other ↦ rw other (plain_back b bs other short text)
  ]

-- a value that is printed is read back
value_back : (at : ℕ) (d : ColumnDef) (v : Value) → FitsColumn d v → IsSound v → field_value at d (value_text v) ≡ Ok v
value_back at d values.Null fits sound = null_read at d fits
value_back at d (values.Number n) fits sound = number_back at d n fits
value_back at d (values.Day n) fits sound = day_back at d n fits sound
value_back at d (values.Text t) fits sound = text_back at d fits.0 t fits.1 sound

values_back : (at : ℕ) (columns : List ColumnDef) (row : Row) → FitsColumns columns row → AllByRecursion IsSound row → field_values at columns (map value_text row) ≡ Ok row
values_back at [] [] fits sound = refl
values_back at [] (v ∷ row) fits sound = absurd fits
values_back at (d ∷ columns) [] fits sound = absurd fits
values_back at (d ∷ columns) (v ∷ row) fits sound = rw (value_back at d v fits.0 sound.0, values_back at columns row fits.1 sound.1) refl

same_width : (columns : List ColumnDef) (row : Row) → FitsColumns columns row → length (map value_text row) ≡ length columns
same_width [] [] fits = refl
same_width [] (v ∷ row) fits = absurd fits
same_width (d ∷ columns) [] fits = absurd fits
same_width (d ∷ columns) (v ∷ row) fits = let rest = same_width columns row fits.1 in omega (arith, rest)

rows_back : (columns : List ColumnDef) (at : ℕ) (rows : List Row) → AllByRecursion (FitsColumns columns) rows → AllByRecursion (AllByRecursion IsSound) rows
    → record_rows columns at (map (map value_text) rows) ≡ Ok rows
rows_back columns at [] fit sound = refl
rows_back columns at (row ∷ rows) fit sound =
    let first : record_row columns at (map value_text row) ≡ Ok row = of_width at columns (map value_text row) (same_width columns row fit.0) ∙ values_back at columns row fit.0 sound.0 in
    rw (first, rows_back columns (at + 1) rows fit.1 sound.1) refl

-- no line of a table with columns is blank
fields_back : (columns : List ColumnDef) (rows : List Row) → 0 < length columns → AllByRecursion (FitsColumns columns) rows
    → map read_back (map (map value_text) rows) ≡ map (map value_text) rows
fields_back [] rows wide fit = absurd (omega (arith, wide))
fields_back (d ∷ columns) [] wide fit = refl
fields_back (d ∷ columns) ([] ∷ rows) wide fit = absurd fit.0
fields_back (d ∷ columns) ((v ∷ row) ∷ rows) wide fit =
    ap (λ (rest : List (List (List ℕ))). map value_text (v ∷ row) ∷ rest) (fields_back (d ∷ columns) rows wide fit.1)

-- rows that are printed are read back
pub printed_back : (columns : List ColumnDef) (rows : List Row) → 0 < length columns → AllByRecursion (FitsColumns columns) rows → AllByRecursion (AllByRecursion IsSound) rows
    → strip_bom (flat_map row_text rows) ≡ flat_map row_text rows → file_rows columns (flat_map row_text rows) ≡ Ok rows
printed_back columns rows wide fit sound plain =
    ap (λ (text : List ℕ). record_rows columns 1 (records_in st.StartRecord text)) (plain ∙ lines_written rows)
    ∙ ap (record_rows columns 1) (lines_read (map (map value_text) rows) ∙ fields_back columns rows wide fit)
    ∙ rows_back columns 1 rows fit sound
