-- Texts as values, none of which is NULL.
use Rattle.std.specs.Prelude.{ℕ, ◌<◌, ◌≡◌, List, length, map}
use Rattle.std.specs.List.{All, fold}
use Rattle.cq_values.specs.declared.value.Value.{Value}
use Rattle.cq_values.specs.declared.value.Value.TheVariants.{Text}
use Rattle.cq_encodings.specs.Dict.{coded, different_texts, with_text}

-- the values that texts are
abbrev pub text_values : List (List ℕ) → List Value
text_values texts = map Text texts

-- with these texts known from the start, the different ones are the same
abbrev pub IsFirst : List (List ℕ) → List (List ℕ) → Type 0
IsFirst known texts = fold with_text known (text_values texts) ≡ different_texts (text_values texts)

-- the numbers are those of the texts among the different ones
pub record AreTextCodes (entries : List (List ℕ)) (codes : List ℕ) (texts : List (List ℕ)) : Type 0 where
  pub within : All (λ code. code < length entries) codes
  pub different : entries ≡ different_texts (text_values texts)
  pub same : coded entries codes ≡ texts
