-- A number that is printed is read back.
use Rattle.std.proofs.Common.{◌≡◌, ◌∙◌, ◌∷◌, [], ℕ, suc, ◌+◌, ◌-◌, ◌*◌, ◌^◌, ◌<◌, ◌==◌, List, Some, true, false, refl, ap, length, ℤ, pos, negsuc, neg_ℤ, Ok, FitsSigned, rules, arith}
use Rattle.std.proofs.lemmas.Bool.{ne_eqb}
use Rattle.std.proofs.lemmas.Bool.Decides.{nat_tests}
use Rattle.std.proofs.lemmas.Fmt.{IsAscii-signed, decimal_nonempty, digits_decimal, digits_value-decimal}
use Rattle.std.proofs.lemmas.Int.{ints}
use Rattle.std.proofs.lemmas.Str.Parse.{IsNumeralModel, numerals_by_fold}
use Rattle.std.specs.Fmt.{decimal, signed_decimal}
use Rattle.std.specs.Int.{w64}
use Rattle.std.specs.Int.Signed.{mag}
use Rattle.std.specs.List.{list_all}
use Rattle.std.specs.Prelude.{◌&&◌, fold, int_le, int_lt, option_map}
use Rattle.std.specs.Str.{IsAscii}
use Rattle.cq_values.specs.Dates.{is_digit, number_of}
use Rattle.cq_values.specs.declared.ty.Ty.{Ty}
use Rattle.cq_values.specs.declared.ty.Ty.TheVariants as types
use Rattle.cq_values.specs.declared.value.Value.TheVariants as values
use Rattle.cq_model.specs.Sizes.{stored_size}
use Rattle.cq_binder_rules.specs.Fields.{digits_number, field_number, is_null_field, typed_field}

-- digits and their number are those of std
own : IsNumeralModel (λ (ds : List ℕ). list_all is_digit ds ≡ true) number_of
own = numerals_by_fold (λ (ds : List ℕ). list_all is_digit ds ≡ true) (search rules) (λ (n : ℕ) (ds : List ℕ). fold (λ (m b : ℕ). 10 * m + (b - 48)) n ds) (search rules)

digits_read : (ds : List ℕ) → 0 < length ds → list_all is_digit ds ≡ true → digits_number ds ≡ Some (number_of ds)
digits_read [] some all = absurd (omega (arith, some))
digits_read (b ∷ bs) some all = rw all refl

-- a digit is no minus and no backslash
digit_plain : (b : ℕ) (bs : List ℕ) → list_all is_digit (b ∷ bs) ≡ true → ((b == 45) ≡ false) × ((b == 92) ≡ false)
digit_plain b bs all = grind (arith, nat_tests)

plain_read : (ds : List ℕ) → 0 < length ds → list_all is_digit ds ≡ true → field_number ds ≡ Some (pos (number_of ds))
plain_read [] some all = absurd (omega (arith, some))
plain_read (b ∷ bs) some all = rw ((digit_plain b bs all).0, digits_read (b ∷ bs) some all) refl

-- a field that begins otherwise than with a backslash is not NULL
pub starts_otherwise : (ty : Ty) (b : ℕ) (bs : List ℕ) → (b == 92) ≡ false → is_null_field ty (b ∷ bs) ≡ false
starts_otherwise ty b bs other = rw (other, ne_eqb (length (b ∷ bs)) 0 (λ e. cc e)) refl

digits_there : (ty : Ty) (ds : List ℕ) → 0 < length ds → list_all is_digit ds ≡ true → is_null_field ty ds ≡ false
digits_there ty [] some all = absurd (omega (arith, some))
digits_there ty (b ∷ bs) some all = starts_otherwise ty b bs (digit_plain b bs all).1

small : (n : ℤ) → FitsSigned w64 n → mag n < 2 ^ 63
small (pos n) fits = omega (arith, ints, fits)
small (negsuc n) fits = omega (arith, ints, fits)

spelt : (n : ℤ) → mag n < 2 ^ 63 → field_number (signed_decimal n) ≡ Some n
spelt (pos n) size =
    let below : n < 2 ^ 64 = omega (arith, size) in
    plain_read (decimal n) (decimal_nonempty n below) (digits_decimal own n below) ∙ ap (λ (m : ℕ). Some (pos m)) (digits_value-decimal own n below)
spelt (negsuc n) size =
    let below : suc n < 2 ^ 64 = omega (arith, size) in
    ap (option_map (λ (m : ℕ). neg_ℤ (pos m))) (digits_read (decimal (suc n)) (decimal_nonempty (suc n) below) (digits_decimal own (suc n) below))
    ∙ ap (λ (m : ℕ). Some (neg_ℤ (pos m))) (digits_value-decimal own (suc n) below)

module _ (n : ℤ) (fits : FitsSigned w64 n) where
  pub number_ascii : IsAscii (signed_decimal n)
  number_ascii = IsAscii-signed n (small n fits)

  -- its field is not NULL
  pub number_there : (ty : Ty) → is_null_field ty (signed_decimal n) ≡ false
  number_there ty = by_sign n (small n fits)
    where
      by_sign : (z : ℤ) → mag z < 2 ^ 63 → is_null_field ty (signed_decimal z) ≡ false
      by_sign (pos m) size =
          let below : m < 2 ^ 64 = omega (arith, size) in
          digits_there ty (decimal m) (decimal_nonempty m below) (digits_decimal own m below)
      by_sign (negsuc m) size = starts_otherwise ty 45 (decimal (suc m)) refl

  stored : (int_le (neg_ℤ (pos stored_size)) n && int_lt n (pos stored_size)) ≡ true
  stored = grind (arith, ints)

  pub number_read : (at : ℕ) → typed_field at types.Integer (signed_decimal n) ≡ Ok (values.Number n)
  number_read at = rw (spelt n (small n fits)) (rw stored refl)
