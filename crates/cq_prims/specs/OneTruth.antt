-- Comparisons whose truth is one in each place.
use Rattle.std.specs.Prelude.{◌≡◌, List, length, replicate}
use Rattle.std.specs.Simd.Lanes.{zip2}
use Rattle.cq_values.specs.declared.comparison.Comparison.{Comparison}
use Rattle.cq_values.specs.declared.truth.Truth.{Truth}
use Rattle.cq_values.specs.declared.value.Value.{Value}
use Rattle.cq_values.specs.Comparison.{compared}

-- the comparison has this truth in each place
abbrev pub HasOneTruth : Comparison → List Value → List Value → Truth → Type 0
HasOneTruth comparison values others truth = zip2 (compared comparison) values others ≡ replicate (length values) truth
