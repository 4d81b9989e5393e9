-- Values as they are.
use Rattle.std.specs.Prelude.{List}
use Rattle.cq_values.specs.declared.value.Value.{Value}
use Rattle.cq_encodings_plain.specs.declared.plain.Plain.{Plain}
use Rattle.cq_encodings_plain.specs.declared.plain.Plain.TheVariants as plain

-- the values, which those of one kind are themselves
abbrev pub plain_values : Plain → List Value
plain_values (plain.Numbers numbers) = numbers
plain_values (plain.Texts texts) = texts
plain_values (plain.Values values) = values.items
