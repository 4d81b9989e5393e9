-- The kind of the values of a vector.
use Rattle.std.specs.Prelude.{◌≡◌, ℕ, ◌==◌, ◌||◌, Bool, true, List, map, slice_index_or}
use Rattle.cq_values.specs.declared.value.Value.{Value}
use Rattle.cq_values.specs.declared.value.Value.TheVariants.{Null}
use Rattle.cq_values.specs.Order.{kind, bytes}
use Rattle.cq_model.specs.Condition.{is_null}

-- the value is of the kind, or NULL
abbrev pub is_of_kind : ℕ → Value → Bool
is_of_kind k v = is_null v || kind v == k

-- each value is of the kind, or NULL
abbrev pub AreOfKind : ℕ → List Value → Type 0
AreOfKind k values = (i : ℕ) → is_of_kind k (slice_index_or values i Null) ≡ true

-- the texts are those of the values, which are all texts or NULL
abbrev pub ShowsTexts : List (List ℕ) → List Value → Type 0
ShowsTexts texts values = (texts ≡ map bytes values) × AreOfKind 2 values
