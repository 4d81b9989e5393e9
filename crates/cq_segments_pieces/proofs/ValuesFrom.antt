-- The value of a row, where its column stands.
use Rattle.std.proofs.Common.{◌≡◌, ◌∙◌, ℕ, ◌+◌, ◌*◌, ◌<◌, List, [], get_or, length, ap, arith, sym}
use Rattle.std.proofs.lemmas.List.{length-map}
use Rattle.cq_values.specs.Value.{Row, column}
use Rattle.cq_values.specs.declared.value.Value.TheVariants.{Null}
use Rattle.cq_encodings.specs.AnyEncoded.{encoded_values}
use Rattle.cq_encodings.specs.declared.any_encoded.AnyEncoded.{AnyEncoded}
use Rattle.cq_vectors.specs.Gathered.{column_of}
use Rattle.cq_segments_pieces.specs.Columns.{values_from}
use Rattle.cq_segments_pieces.proofs.Parts.{part_read_from}
use Rattle.cq_segments_pieces.proofs.ValuesAt.{column_read}

-- where a part of a column has the values of rows, it has that of each row at its place
pub value_from : (rows : List Row) (one : AnyEncoded) (part from at place : ℕ) → values_from one part from ≡ column_of rows at → place < length rows
    → get_or (encoded_values one) (1024 * part + from + place) Null ≡ column (get_or rows place []) at
value_from rows one part from at place is lt =
    let there : place < length (values_from one part from) = omega (arith, lt, ap length is, length-map rows (λ row. column row at)) in
    sym (part_read_from part from place (encoded_values one) there) ∙ ap (λ values. get_or values place Null) is ∙ column_read rows at place
