-- Texts as their numbers among the different ones.
use Rattle.std.specs.Prelude.{ℕ, ◌<◌, ◌≤◌, ◌≡◌, Bool, true, if◌then◌else◌, List, [], ◌∷◌, ◌++◌, fold, length, map, slice_index_or}
use Rattle.std.specs.List.{All, list_any}
use Rattle.std.specs.Str.{bytes_eq}
use Rattle.std.specs.Simd.Lanes.{zip2}
use Rattle.cq_values.specs.declared.value.Value.{Value}
use Rattle.cq_values.specs.declared.value.Value.TheVariants.{Text}
use Rattle.cq_values.specs.declared.lent.Lent.{Lent}
use Rattle.cq_values.specs.Lent.{owned}
use Rattle.cq_values.specs.Value.{is_null}
use Rattle.cq_vectors_stored.specs.Columns.{text_unless}
use Rattle.cq_encodings_plain.specs.Nulls.{NothingWhere}
use Rattle.cq_encodings_plain.specs.Parts.{Makes, nulls_of}

-- the texts that the numbers stand for
abbrev pub coded : List (List ℕ) → List ℕ → List (List ℕ)
coded entries codes = map (λ code. slice_index_or entries code []) codes

-- the entries so far keep their places
pub record Keeps (old new : List (List ℕ)) : Type 0 where
  pub long : length old ≤ length new
  pub there : (code : ℕ) → code < length old → slice_index_or new code [] ≡ slice_index_or old code []

-- each number is that of an entry, and there is a flag for each number, which is 0 where NULL stands
pub record AreCodes (entries : List (List ℕ)) (codes : List ℕ) (nulls : List Bool) : Type 0 where
  pub long : length nulls ≡ length codes
  pub clear : NothingWhere 0 nulls codes
  pub known : All (λ code. code < length entries) codes

-- the texts so far, with that of a value if it is a text that is not among them
abbrev pub with_text : List (List ℕ) → Value → List (List ℕ)
with_text known (Text text) = if list_any (bytes_eq text) known then known else known ++ text ∷ []
with_text known value = known

-- the different texts among values, in the order of their first places
abbrev pub different_texts : List Value → List (List ℕ)
different_texts values = fold with_text [] values

-- the numbers are those of the different texts among the values that they stand for
abbrev pub IsDict : List (List ℕ) → List ℕ → List Bool → Type 0
IsDict entries codes nulls = AreCodes entries codes nulls × (entries ≡ different_texts (zip2 text_unless (coded entries codes) nulls))

-- the value is no text that is not known
abbrev pub AddsNoText : Value → Type 0
AddsNoText value = (known : List (List ℕ)) → with_text known value ≡ known

-- with these texts known from the start, the different texts are the same
pub record IsFirstText (known : List (List ℕ)) (values : List Lent) : Type 0 where
  pub same : fold with_text known (map owned values) ≡ different_texts (map owned values)
  pub some : 0 < length known

-- the text has the number among these
pub record HasText (known : List (List ℕ)) (number : ℕ) (text : List ℕ) : Type 0 where
  pub within : number < length known
  pub is : slice_index_or known number [] ≡ text

-- the text, which is now known, has the number among the new texts
pub record IsNumbered (text : List ℕ) (number : ℕ) (old new : List (List ℕ)) : Type 0 where
  pub kept : Keeps old new
  pub met : new ≡ with_text old (Text text)
  pub has : HasText new number text

-- the number stands for the value, whose text is now known
pub record IsCode (value : Lent) (code : ℕ) (old new : List (List ℕ)) : Type 0 where
  pub kept : Keeps old new
  pub met : new ≡ with_text old (owned value)
  pub null : is_null (owned value) ≡ true → code ≡ 0
  pub within : code < length new
  pub same : Makes text_unless (slice_index_or new code []) value

-- the numbers are those of the values among the different texts
pub record AreCodesOf (entries : List (List ℕ)) (codes : List ℕ) (values : List Lent) : Type 0 where
  pub are : AreCodes entries codes (nulls_of values)
  pub different : entries ≡ different_texts (map owned values)
  pub same : zip2 text_unless (coded entries codes) (nulls_of values) ≡ map owned values
