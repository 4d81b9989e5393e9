-- Values in one of the forms.
use Rattle.std.specs.Prelude.{List}
use Rattle.cq_values.specs.declared.value.Value.{Value}
use Rattle.cq_encodings.specs.declared.any_encoded.AnyEncoded.{AnyEncoded}
use Rattle.cq_encodings.specs.declared.any_encoded.AnyEncoded.TheVariants as form
use Rattle.cq_encodings_plain.specs.Plain.{plain_values}

-- the values that are kept
abbrev pub encoded_values : AnyEncoded → List Value
encoded_values (form.Plain values) = plain_values values
encoded_values (form.Runs values) = values
encoded_values (form.Dict values) = values
encoded_values (form.Packed values) = values
encoded_values (form.Deltas values) = values
