-- The values of a column, as they are gathered.
use Rattle.std.specs.Prelude.{List, map, ⊤}
use Rattle.std.specs.List.{AllByRecursion}
use Rattle.cq_encodings.specs.Texts.{text_values}
use Rattle.cq_encodings_plain.specs.Kind.{IsOf, number_values}
use Rattle.cq_values.specs.Lent.{owned}
use Rattle.cq_values.specs.declared.value.Value.{Value}
use Rattle.cq_vectors_stored.specs.Columns.{texts_of}
use Rattle.cq_segments.specs.declared.gathered.Gathered.{Gathered}
use Rattle.cq_segments.specs.declared.gathered.Gathered.TheVariants as gathered

-- the values
abbrev pub gathered_values : Gathered → List Value
gathered_values (gathered.Numbers kind numbers) = number_values kind numbers.items
gathered_values (gathered.Texts texts) = text_values (texts_of texts.items)
gathered_values (gathered.Values values) = map owned values.items

-- numbers are all of their kind
abbrev pub AreOfKind : Gathered → Type 0
AreOfKind (gathered.Numbers kind numbers) = AllByRecursion (IsOf kind) numbers.items
AreOfKind (gathered.Texts texts) = ⊤
AreOfKind (gathered.Values values) = ⊤
