-- What is asked of the entries of a dictionary (ISO 9075-2, 8.2 and 8.5).
use Rattle.std.specs.Prelude.{ℕ, List}
use Rattle.cq_model.specs.Condition.{liked}
use Rattle.cq_prims_texts.specs.declared.known_truths.Asked.{Asked}
use Rattle.cq_prims_texts.specs.declared.known_truths.Asked.TheVariants.{Like, Compared}
use Rattle.cq_values.specs.Comparison.{compared}
use Rattle.cq_values.specs.declared.comparison.Comparison.{Comparison}
use Rattle.cq_values.specs.declared.truth.Truth.{Truth}
use Rattle.cq_values.specs.declared.value.Value.{Value}
use Rattle.cq_values.specs.declared.value.Value.TheVariants.{Text}

-- whether a value is like the pattern
abbrev pub liked_by : List ℕ → Value → Truth
liked_by pattern value = liked value pattern

-- a value compared with a text
abbrev pub compared_by : Comparison → List ℕ → Value → Truth
compared_by comparison text value = compared comparison value (Text text)

-- the truth of the condition of a value
abbrev pub truth_asked : Asked → Value → Truth
truth_asked (Like pattern) = liked_by pattern.now
truth_asked (Compared comparison text) = compared_by comparison text.now
