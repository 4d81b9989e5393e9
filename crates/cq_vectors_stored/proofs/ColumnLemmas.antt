-- What a column of one kind keeps of its values.
use Rattle.std.proofs.Common.{◌≡◌, ℕ, zero, suc, ◌<◌, ◌≤◌, ℤ, pos, Bool, true, false, Bor, List, [], ◌∷◌, map, length, get_or, refl, sym, ap, ap₂, ◌∙◌, arith}
use lib.Lanes.{zip2}
use Rattle.std.proofs.lemmas.Simd.{length-zip2}
use Rattle.cq_values.specs.declared.value.Value.{Value}
use Rattle.cq_values.specs.declared.value.Value.TheVariants.{Null, Number, Text}
use Rattle.cq_values.specs.Order.{number, bytes}
use Rattle.cq_model.specs.Condition.{is_null}
use Rattle.cq_vectors_stored.specs.Columns.{EmptyWhere, KeepsNumbers, KeepsTexts, ZeroWhere, day_unless, number_unless, text_unless, texts_of}

module _ {A : Type 0} (unless : A → Bool → Value) (part : Value → A) (none : A) (of_null : (x : A) → part (unless x true) ≡ none) (of_some : (x : A) → part (unless x false) ≡ x) (flag : (x : A) (b : Bool) → is_null (unless x b) ≡ b) where
  -- the parts are those of the values, where NULL has no part
  parts_kept : (xs : List A) (ns : List Bool) → length ns ≡ length xs → ((k : ℕ) → get_or ns k false ≡ true → get_or xs k none ≡ none) → xs ≡ map part (zip2 unless xs ns)
  parts_kept [] ns same where_null = refl
  parts_kept (x ∷ xs) [] same where_null = absurd (omega arith)
  parts_kept (x ∷ xs) (true ∷ ns) same where_null = ap₂ (λ y l. y ∷ l) (where_null 0 refl ∙ sym (of_null x)) (parts_kept xs ns (omega arith) (λ k. where_null (suc k)))
  parts_kept (x ∷ xs) (false ∷ ns) same where_null = ap₂ (λ y l. y ∷ l) (sym (of_some x)) (parts_kept xs ns (omega arith) (λ k. where_null (suc k)))

  -- the flags say which of the values are NULL
  flags_kept : (xs : List A) (ns : List Bool) → length ns ≡ length xs → ns ≡ map is_null (zip2 unless xs ns)
  flags_kept [] [] same = refl
  flags_kept [] (n ∷ ns) same = absurd (omega arith)
  flags_kept (x ∷ xs) [] same = absurd (omega arith)
  flags_kept (x ∷ xs) (n ∷ ns) same = ap₂ (λ b l. b ∷ l) (sym (flag x n)) (flags_kept xs ns (omega arith))

of_number : (x : ℤ) (b : Bool) → is_null (number_unless x b) ≡ b
of_number x true = refl
of_number x false = refl

of_day : (x : ℤ) (b : Bool) → is_null (day_unless x b) ≡ b
of_day x true = refl
of_day x false = refl

of_text : (x : List ℕ) (b : Bool) → is_null (text_unless x b) ≡ b
of_text x true = refl
of_text x false = refl

pub keeps_numbers : (xs : List ℤ) (ns : List Bool) → length ns ≡ length xs → length xs ≤ 1024 → ZeroWhere ns xs → KeepsNumbers xs ns (zip2 number_unless xs ns)
keeps_numbers xs ns same few clear = record {
  numbers = parts_kept number_unless number (pos 0) (λ x. refl) (λ x. refl) of_number xs ns same clear;
  nulls = flags_kept number_unless number (pos 0) (λ x. refl) (λ x. refl) of_number xs ns same;
  few = omega (arith, length-zip2 number_unless xs ns (sym same));
}

pub keeps_days : (xs : List ℤ) (ns : List Bool) → length ns ≡ length xs → length xs ≤ 1024 → ZeroWhere ns xs → KeepsNumbers xs ns (zip2 day_unless xs ns)
keeps_days xs ns same few clear = record {
  numbers = parts_kept day_unless number (pos 0) (λ x. refl) (λ x. refl) of_day xs ns same clear;
  nulls = flags_kept day_unless number (pos 0) (λ x. refl) (λ x. refl) of_day xs ns same;
  few = omega (arith, length-zip2 day_unless xs ns (sym same));
}

pub keeps_texts : (ts : List (List ℕ)) (ns : List Bool) → length ns ≡ length ts → length ts ≤ 1024 → EmptyWhere ns ts → KeepsTexts ts ns (zip2 text_unless ts ns)
keeps_texts ts ns same few empty = record {
  texts = parts_kept text_unless bytes [] (λ x. refl) (λ x. refl) of_text ts ns same empty;
  nulls = flags_kept text_unless bytes [] (λ x. refl) (λ x. refl) of_text ts ns same;
  few = omega (arith, length-zip2 text_unless ts ns (sym same));
}

-- where no flag is set each value is a number
pub without_nulls : (ns : List ℤ) (fs : List Bool) → length fs ≡ length ns → ((k : ℕ) → get_or fs k false ≡ false) → zip2 number_unless ns fs ≡ map Number ns
without_nulls [] fs same clear = refl
without_nulls (n ∷ ns) [] same clear = absurd (omega arith)
without_nulls (n ∷ ns) (true ∷ fs) same clear = absurd (cc (clear 0))
without_nulls (n ∷ ns) (false ∷ fs) same clear = ap (λ l. Number n ∷ l) (without_nulls ns fs (omega arith) (λ k. clear (suc k)))

-- the text of a place that is not NULL
pub text_at : (ts : List (Bor (List ℕ))) (ns : List Bool) (i : ℕ) (d : Bor (List ℕ)) → i < length ts → length ns ≡ length ts → get_or ns i false ≡ false → Text (get_or ts i d).now ≡ get_or (zip2 text_unless (texts_of ts) ns) i Null
text_at [] ns i d lt same some = absurd (omega arith)
text_at (t ∷ ts) [] i d lt same some = absurd (omega arith)
text_at (t ∷ ts) (true ∷ ns) zero d lt same some = absurd (cc some)
text_at (t ∷ ts) (false ∷ ns) zero d lt same some = refl
text_at (t ∷ ts) (n ∷ ns) (suc i) d lt same some = text_at ts ns i d (omega arith) (omega arith) some
