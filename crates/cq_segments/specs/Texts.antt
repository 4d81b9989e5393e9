-- Values that texts are.
use Rattle.std.specs.Prelude.{◌≡◌, ℕ, false, List, Option}
use Rattle.std.specs.Borrow.{Bor}
use Rattle.std.specs.Option.{option_map}
use Rattle.cq_encodings.specs.Texts.{text_values}
use Rattle.cq_values.specs.Value.{Row}
use Rattle.cq_values.specs.declared.value.Value.TheVariants.{Text}
use Rattle.cq_encodings_numbers.specs.Bounds.{AreBounds, Ends}
use Rattle.cq_vectors.specs.Gathered.{column_of}
use Rattle.cq_vectors_stored.specs.Columns.{texts_of}

-- the ends that lent texts are
abbrev pub text_ends : Option (Bor (List ℕ) × Bor (List ℕ)) → Ends
text_ends ends = option_map (λ e. (Text e.0.now, Text e.1.now)) ends

-- they are the bounds of texts
abbrev pub AreTextEnds : Ends → List (List ℕ) → Type 0
AreTextEnds ends texts = AreBounds false ends (text_values texts)

-- the lent texts are a column of rows
abbrev pub AreTextsAt : List (Bor (List ℕ)) → List Row → ℕ → Type 0
AreTextsAt texts rows column = text_values (texts_of texts) ≡ column_of rows column
