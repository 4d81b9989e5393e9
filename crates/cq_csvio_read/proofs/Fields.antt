-- What decides on a field: whether it is NULL, whether it is text, and the type of its column.
use Rattle.std.proofs.Common.{◌≡◌, ◌∙◌, ◌∷◌, [], ℕ, ◌<◌, ◌==◌, ℤ, List, Bool, true, false, refl, sym, ap, if◌then◌else◌, inl, inr, Err, Option, None, arith}
use Rattle.std.proofs.lemmas.Bool.{cases_Bool}
use Rattle.std.proofs.lemmas.Bool.Decides.{nat_tests}
use Rattle.std.proofs.lemmas.Str.{IsUtf8-from_ascii, IsUtf8-from_is_utf8, is_utf8-from_IsUtf8}
use Rattle.std.proofs.lemmas.Str.Ascii.{IsAscii-cons, IsAscii-nil}
use Rattle.std.specs.List.{list_all}
use Rattle.std.specs.Prelude.{IsUtf8, ok_or, option_map, neg_ℤ, pos}
use Rattle.std.specs.Str.{IsAscii, is_utf8}
use Rattle.cq_values.specs.Dates.{is_digit}
use Rattle.cq_values.specs.declared.column.ColumnDef.{ColumnDef}
use Rattle.cq_values.specs.declared.ty.Ty.{Ty}
use Rattle.cq_values.specs.declared.ty.Ty.TheVariants as types
use Rattle.cq_binder_rules.specs.declared.fault.Fault.TheVariants.{BadRecord}
use Rattle.cq_binder_rules.specs.Fields.{digits_number, field_number, field_value, is_null_field, null_in, stored_number, typed_field}
use Rattle.cq_binder_rules.specs.Kinds.{◌and_then◌}

-- digits are ASCII
digits_ascii : (ds : List ℕ) → list_all is_digit ds ≡ true → IsAscii ds
digits_ascii [] all = IsAscii-nil
digits_ascii (b ∷ bs) all =
    let small : b < 128 = grind (arith, nat_tests) in
    IsAscii-cons b bs small (digits_ascii bs (grind (arith, nat_tests)))

digits_spelt : (ds : List ℕ) → list_all is_digit ds ≡ false → digits_number ds ≡ None
digits_spelt [] other = refl
digits_spelt (b ∷ bs) other = rw other refl

-- what is no text spells no number
no_digits : (ds : List ℕ) → ¬ (IsUtf8 ds) → digits_number ds ≡ None
no_digits ds broken = elim (cases_Bool (list_all is_digit ds)) [
  | inl all ↦ absurd (broken (IsUtf8-from_ascii ds (digits_ascii ds all)))
  | inr other ↦ digits_spelt ds other
]

pub no_number : (field : List ℕ) → ¬ (IsUtf8 field) → field_number field ≡ None
no_number [] broken = refl
no_number (b ∷ bs) broken = elim (cases_Bool (b == 45)) [
  | inl minus ↦ ap (λ (x : Bool). if x then option_map (λ n. neg_ℤ (pos n)) (digits_number bs) else option_map pos (digits_number (b ∷ bs))) minus ∙ ap (λ (o : Option ℕ). option_map (λ n. neg_ℤ (pos n)) o) (behind minus)
  | inr other ↦ ap (λ (x : Bool). if x then option_map (λ n. neg_ℤ (pos n)) (digits_number bs) else option_map pos (digits_number (b ∷ bs))) other ∙ ap (λ (o : Option ℕ). option_map pos o) (no_digits (b ∷ bs) broken)
]
  where
    behind : (b == 45) ≡ true → digits_number bs ≡ None
    behind minus = elim (cases_Bool (list_all is_digit bs)) [
      | inl all ↦ absurd (broken (IsUtf8-from_ascii (b ∷ bs) (IsAscii-cons b bs (grind (arith, nat_tests, minus)) (digits_ascii bs all))))
      | inr other ↦ digits_spelt bs other
    ]

-- a field that is NULL is text
null_ascii : (ty : Ty) (field : List ℕ) → is_null_field ty field ≡ true → IsAscii field
null_ascii ty [] null = IsAscii-nil
null_ascii ty (a ∷ []) null = IsAscii-cons a [] (grind (arith, nat_tests, null)) IsAscii-nil
null_ascii ty (a ∷ b ∷ []) null = IsAscii-cons a (b ∷ []) (grind (arith, nat_tests, null)) (IsAscii-cons b [] (grind (arith, nat_tests, null)) IsAscii-nil)
null_ascii ty (a ∷ b ∷ c ∷ bs) null = absurd (grind (arith, nat_tests, null))

module _ (at : ℕ) (column : ColumnDef) (field : List ℕ) where
  -- a field that is no text
  pub no_text : ¬ (IsUtf8 field) → field_value at column field ≡ Err (BadRecord at)
  no_text other = elim (cases_Bool (is_utf8 field)) [
    | inl text ↦ absurd (other (IsUtf8-from_is_utf8 field text))
    | inr broken ↦ rw broken refl
  ]

  -- a field that is NULL
  pub null_field : is_null_field column.ty field ≡ true → field_value at column field ≡ null_in column
  null_field null = rw (is_utf8-from_IsUtf8 field (IsUtf8-from_ascii field (null_ascii column.ty field null)), null) refl

  -- a field of a column of this type
  pub field_typed : IsUtf8 field → (ty : Ty) → column.ty ≡ ty → is_null_field column.ty field ≡ false → field_value at column field ≡ typed_field at ty field
  field_typed text ty is there = rw (is_utf8-from_IsUtf8 field text, there) (rw is refl)

  -- a field of a column of numbers, text or not
  pub field_numeric : column.ty ≡ types.Integer → is_null_field column.ty field ≡ false → field_value at column field ≡ typed_field at types.Integer field
  field_numeric is there = elim (cases_Bool (is_utf8 field)) [
    | inl text ↦ field_typed (IsUtf8-from_is_utf8 field text) types.Integer is there
    | inr broken ↦ no_text (not_text broken) ∙ sym (ap (λ (o : Option ℤ). ok_or o (BadRecord at) and_then stored_number) (no_number field (not_text broken)))
  ]
    where
      not_text : is_utf8 field ≡ false → ¬ (IsUtf8 field)
      not_text broken text = cc (broken, is_utf8-from_IsUtf8 field text)
