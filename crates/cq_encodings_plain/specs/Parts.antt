-- What values are made of, and NULL among them.
use Rattle.std.specs.Prelude.{◌≡◌, ℤ, pos, Bool, false, List, length, map, replicate}
use Rattle.std.specs.Simd.Lanes.{zip2}
use Rattle.cq_values.specs.declared.lent.Lent.{Lent}
use Rattle.cq_values.specs.declared.value.Value.{Value}
use Rattle.cq_values.specs.Lent.{owned}
use Rattle.cq_values.specs.Value.{is_null}
use Rattle.cq_encodings_plain.specs.declared.kind.Kind.{Kind}
use Rattle.cq_encodings_plain.specs.Kind.{datum}
use Rattle.cq_encodings_plain.specs.Nulls.{NothingWhere}

-- which of some lent values are NULL
abbrev pub nulls_of : List Lent → List Bool
nulls_of values = map is_null (map owned values)

-- none of some lent values is NULL
abbrev pub IsNoneNull : List Lent → Type 0
IsNoneNull values = nulls_of values ≡ replicate (length values) false

-- the part makes the lent value
abbrev pub Makes : {A : Type 0} → (A → Bool → Value) → A → Lent → Type 0
Makes unless part value = unless part (is_null (owned value)) ≡ owned value

-- the parts and the flags make the values, and there is nothing at NULL
pub record AreParts {A : Type 0} (unless : A → Bool → Value) (nothing : A) (parts : List A) (values : List Lent) : Type 0 where
  pub long : length parts ≡ length values
  pub clear : NothingWhere nothing (nulls_of values) parts
  pub same : zip2 unless parts (nulls_of values) ≡ map owned values

-- the numbers of a kind make the values, and there is 0 at NULL
abbrev pub AreNumbersOf : Kind → List ℤ → List Lent → Type 0
AreNumbersOf kind numbers values = AreParts (datum kind) (pos 0) numbers values
