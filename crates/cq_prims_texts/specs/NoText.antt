-- Values of which LIKE is not known.
use Rattle.std.specs.Prelude.{Bool, true, false}
use Rattle.cq_values.specs.declared.value.Value.{Value}
use Rattle.cq_values.specs.declared.value.Value.TheVariants.{Text}

-- LIKE is not known of a value that is no text
abbrev pub is_no_text : Value → Bool
is_no_text (Text t) = false
is_no_text v = true
