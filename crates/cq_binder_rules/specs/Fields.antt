-- What a field of a file says for a column of a table (docs/LANGUAGE.md, COPY).
use Rattle.std.specs.Prelude.{ℕ, ◌==◌, nat_le, ℤ, pos, neg_ℤ, int_le, int_lt, Bool, ◌&&◌, ◌||◌, not, if◌then◌else◌, List, [], ◌∷◌, length, codes, Option, Some, None, option_map, ok_or, Result, Err}
use Rattle.std.specs.List.{list_all}
use Rattle.std.specs.Str.{is_utf8}
use Rattle.cq_values.specs.Dates.{day_named, is_digit, number_of}
use Rattle.cq_values.specs.Texts.{is_text}
use Rattle.cq_values.specs.declared.column.ColumnDef.{ColumnDef}
use Rattle.cq_values.specs.declared.ty.Ty.{Ty}
use Rattle.cq_values.specs.declared.ty.Ty.TheVariants as types
use Rattle.cq_values.specs.declared.value.Value.{Value}
use Rattle.cq_values.specs.declared.value.Value.TheVariants as values
use Rattle.cq_model.specs.Sizes.{stored_size, text_limit}
use Rattle.cq_values.specs.Printed.{is_escaped}
use Rattle.cq_binder_rules.specs.declared.fault.Fault.{Fault}
use Rattle.cq_binder_rules.specs.declared.fault.Fault.TheVariants.{NumberOutside, NullNotAllowed, TextTooLong, BadDate, BadRecord}
use Rattle.cq_binder_rules.specs.Grouping.{is_empty}
use Rattle.cq_binder_rules.specs.Kinds.{◌and_then◌, unless}
use Rattle.cq_binder_rules.specs.RowChecks.{is_type}

-- the number that digits alone spell
abbrev pub digits_number : List ℕ → Option ℕ
digits_number [] = None
digits_number (b ∷ bs) = if list_all is_digit (b ∷ bs) then Some (number_of (b ∷ bs)) else None

-- the number of a field: digits, or a minus and digits
abbrev pub field_number : List ℕ → Option ℤ
field_number [] = None
field_number (b ∷ bs) = if b == 45 then option_map (λ n. neg_ℤ (pos n)) (digits_number bs) else option_map pos (digits_number (b ∷ bs))

-- the text of a field: of two backslashes in front it loses one
abbrev pub text_in : List ℕ → List ℕ
text_in [] = []
text_in (b ∷ bs) = if (b == 92) && is_escaped bs then bs else b ∷ bs

-- whether a field is NULL: as it is printed, or as nothing in a column of numbers or dates
abbrev pub is_null_field : Ty → List ℕ → Bool
is_null_field ty t = is_text t (codes "\\N") || (is_empty t && not (is_type ty types.Text))

-- NULL, where the column takes it
abbrev pub null_in : ColumnDef → Result Value Fault
null_in d = unless (not d.not_null) NullNotAllowed values.Null

-- a number of 64 bits with a sign
abbrev pub stored_number : ℤ → Result Value Fault
stored_number n = unless (int_le (neg_ℤ (pos stored_size)) n && int_lt n (pos stored_size)) NumberOutside (values.Number n)

-- a text that is not too long
abbrev pub stored_text : List ℕ → Result Value Fault
stored_text t = unless (nat_le (length t) text_limit) TextTooLong (values.Text t)

-- a field that is not NULL, in a column of this type; a fault of its form names the record
abbrev pub typed_field : ℕ → Ty → List ℕ → Result Value Fault
typed_field at types.Integer t = ok_or (field_number t) (BadRecord at) and_then stored_number
typed_field at types.Text t = stored_text (text_in t)
typed_field at types.Date t = if is_escaped t then Err (BadRecord at) else ok_or (option_map values.Day (day_named t)) BadDate

-- the value of a field for a column, in the record of this number
abbrev pub field_value : ℕ → ColumnDef → List ℕ → Result Value Fault
field_value at d t =
    if not (is_utf8 t) then Err (BadRecord at)
    else if is_null_field d.ty t then null_in d
    else typed_field at d.ty t
