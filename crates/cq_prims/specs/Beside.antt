-- Numbers and days above a base, each beside one constant.
use Rattle.std.specs.Prelude.{ℕ, pos, ◌+ℤ◌, Bool, false, not, int_lt, List, replicate, length, ◌≡◌}
use Rattle.std.specs.Ordering.{int_eq}
use Rattle.std.specs.Simd.Lanes.{zip2}
use Rattle.cq_values.specs.declared.comparison.Comparison.{Comparison}
use Rattle.cq_values.specs.declared.truth.Truth.{Truth}
use Rattle.cq_values.specs.declared.value.Value.{Value}
use Rattle.cq_values.specs.Comparison.{compared}
use Rattle.cq_prims_lanes.specs.UpTo.{known_of}
use Rattle.cq_vectors_stored.specs.Offsets.{offsets_in}
use Rattle.cq_prims.specs.Numbers.{unless}
use Rattle.cq_prims.specs.declared.narrow_side.NarrowSide.{NarrowSide}

-- the values stand above the base, and each of the others is the constant
pub record AreBeside (side : NarrowSide) (values others : List Value) : Type 0 where
  pub days : Bool
  pub column : values ≡ zip2 (λ offset flag. unless days (side.base +ℤ pos offset) flag) (offsets_in side.offsets) side.nulls.now
  pub constant : others ≡ replicate (length values) (unless days side.value false)

-- the values stand beside each list that is one value throughout
abbrev pub AreBesideOne : NarrowSide → List Value → Value → Type 0
AreBesideOne side values one = (others : List Value) → others ≡ replicate (length values) one → AreBeside side values others

-- whether the number at the offset is the constant
abbrev pub is_constant : NarrowSide → ℕ → Bool
is_constant side offset = int_eq (side.base +ℤ pos offset) side.value

-- whether the number at the offset stands below the constant
abbrev pub is_below : NarrowSide → ℕ → Bool
is_below side offset = int_lt (side.base +ℤ pos offset) side.value

-- whether the number at the offset does not stand above the constant
abbrev pub is_at_most : NarrowSide → ℕ → Bool
is_at_most side offset = not (int_lt side.value (side.base +ℤ pos offset))

-- the answers of a test of the offsets, and Unknown where NULL stands
abbrev pub answers_of : NarrowSide → (ℕ → Bool) → List Truth
answers_of side test = known_of test (offsets_in side.offsets) side.nulls.now

-- the truths are those of the values compared with what stands beside them
abbrev pub AreTruthsBeside : NarrowSide → Comparison → List Truth → Type 0
AreTruthsBeside side comparison truths = (values others : List Value) → AreBeside side values others → truths ≡ zip2 (compared comparison) values others
