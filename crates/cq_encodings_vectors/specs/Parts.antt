-- Lists of values in parts of 1,024.
use Rattle.std.specs.Prelude.{ℕ, ◌*◌, List, drop, take}
use Rattle.cq_values.specs.declared.value.Value.{Value}
use Rattle.cq_encodings.specs.AnyEncoded.{encoded_values}
use Rattle.cq_encodings.specs.declared.any_encoded.AnyEncoded.{AnyEncoded}
use Rattle.cq_encodings_vectors.specs.Places.{values_at}

-- the values from 1,024 * k on, 1,024 of them or as many as are left
abbrev pub part_of : ℕ → List Value → List Value
part_of k values = take 1024 (drop (1024 * k) values)

-- the same of what the values are made of
abbrev pub items_of : {X : Type 0} → ℕ → List X → List X
items_of k items = take 1024 (drop (1024 * k) items)

-- what an encoding has at some places of a part
abbrev pub placed : AnyEncoded → ℕ → List ℕ → List Value
placed encoded k places = values_at (part_of k (encoded_values encoded)) places
