-- Lines of fields by the writer of `csv`.
use Rattle.std.specs.Prelude.{ℕ, ◌+◌, ◌^◌, ◌<◌, ◌==◌, ◌&&◌, ◌||◌, ◌≡◌, List, [], ◌∷◌, ◌++◌, length, not, true, Vec}
use Rattle.std.specs.Global.{Global}
use Rattle.csv.specs.Writing.{default_writer, fields_written, has_written, is_blank, row_body, with_flexible, writer_pending, writer_setup, writer_under}
use Rattle.csv.specs.declared.writer.Writer.{Writer}
use Rattle.csv.specs.declared.writer.WriterBuilder.{WriterBuilder}
use Rattle.cq_values.specs.Printed.{line_text}
use Rattle.cq_csvio.specs.declared.lines.Lines.{Lines}

-- the defaults of `csv`, for lines that may differ in their number of fields
abbrev pub setup : WriterBuilder
setup = with_flexible default_writer true

-- this text, and behind it a line that has these fields so far
abbrev pub Holds : Writer (Vec ℕ Global) → List ℕ → List (List ℕ) → Type 0
Holds writer text fields =
    (writer_setup writer ≡ setup)
    × ((writer_under writer).items ++ writer_pending writer ≡ text ++ row_body setup fields)
    × (fields_written writer ≡ length fields)
    × (is_blank setup fields ≡ (not (has_written writer) && ((length fields == 0) || (length fields == 1))))

-- one more field stands in the line
abbrev pub Adds : List ℕ → Lines → Lines → Type 0
Adds field old new = (text : List ℕ) (fields : List (List ℕ)) → Holds old.writer text fields → length fields + 1 < 2 ^ 64 → Holds new.writer text (fields ++ field ∷ [])

-- the line stands behind the text, as the fields' line is defined
abbrev pub Ends : Lines → Lines → Type 0
Ends old new = (text : List ℕ) (fields : List (List ℕ)) → Holds old.writer text fields → Holds new.writer (text ++ line_text fields) []

-- these whole lines stand behind the text
abbrev pub AddsLines : List ℕ → Lines → Lines → Type 0
AddsLines more old new = (text : List ℕ) → Holds old.writer text [] → Holds new.writer (text ++ more) []

-- a text of whole lines is this one
abbrev pub HasText : Lines → List ℕ → Type 0
HasText lines bytes = (text : List ℕ) → Holds lines.writer text [] → bytes ≡ text
