-- Truths as two planes of flags.
use Rattle.std.specs.Prelude.{Bool, true, false, List, map, ◌≡◌}
use Rattle.cq_values.specs.declared.truth.Truth.{Truth}
use Rattle.cq_values.specs.declared.truth.Truth.TheVariants.{True, False, Unknown}
use Rattle.cq_values.specs.Truth.{is_true, truth_of}

-- whether a condition is False, and not only Unknown
abbrev pub is_false : Truth → Bool
is_false True = false
is_false False = true
is_false Unknown = false

-- the truth that the two flags of a place stand for
abbrev pub truth_by : Bool → Bool → Truth
truth_by true f = True
truth_by false true = False
truth_by false false = Unknown

-- one plane has the places that are True, the other those that are False
pub record Shows (ts fs : List Bool) (truths : List Truth) : Type 0 where
  pub trues : ts ≡ map is_true truths
  pub falses : fs ≡ map is_false truths

-- the answer of a test, and Unknown where the value is NULL
abbrev pub known : Bool → Bool → Truth
known answer true = Unknown
known answer false = truth_of answer
