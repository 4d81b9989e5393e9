-- The lines of rows are what `csv` reads back as their fields.
use Rattle.std.proofs.Common.{◌≡◌, ◌∙◌, ◌++◌, ◌∷◌, [], ℕ, ◌+◌, List, refl, sym, ap, ap₂, length, map, arith}
use Rattle.std.specs.List.{flat_map}
use Rattle.csv.specs.Machine.{next_record}
use Rattle.csv.specs.Writing.{default_writer, escaped, field_text, fields_text, is_blank, read_back}
use Rattle.csv.specs.Writing as csv
use Rattle.csv.specs.declared.parser.State.TheVariants as st
use Rattle.csv.proofs.RoundTrip.{read-write, rows_text}
use Rattle.cq_values.specs.Value.{Row}
use Rattle.cq_values.specs.Printed.{row_text, value_text}
use Rattle.cq_csvio.specs.Lines.{setup}
use Rattle.cq_csvio.proofs.Written.{same_line}
use Rattle.cq_csvio_read.specs.Records.{records_in}
use Rattle.cq_csvio_read.proofs.Csv.{records_more, records_none}

-- how many fields a line has makes no difference to its text
same_inside : (field : List ℕ) → escaped default_writer field ≡ escaped setup field
unfolding escaped
same_inside [] = refl
same_inside (b ∷ field) = rw (same_inside field) refl

same_field : (field : List ℕ) → field_text default_writer field ≡ field_text setup field
same_field field = rw (same_inside field) refl

same_rest : (fields : List (List ℕ)) → fields_text default_writer fields ≡ fields_text setup fields
unfolding fields_text
same_rest [] = refl
same_rest (f ∷ fields) = rw (same_field f, same_rest fields) refl

same_text : (fields : List (List ℕ)) → csv.row_text default_writer fields ≡ csv.row_text setup fields
unfolding fields_text is_blank
same_text [] = refl
same_text (f ∷ []) = rw (same_field f) refl
same_text (f ∷ g ∷ fields) = rw (same_field f, same_rest (g ∷ fields)) refl

-- the lines of rows are those that `csv` would write
pub lines_written : (rows : List Row) → flat_map row_text rows ≡ rows_text (map (map value_text) rows)
unfolding rows_text
lines_written [] = refl
lines_written (row ∷ rows) =
    ap₂ (λ (a b : List ℕ). a ++ b) (sym (same_text (map value_text row) ∙ same_line (map value_text row))) (lines_written rows)

-- what `csv` writes it reads back, record by record
pub lines_read : (rows : List (List (List ℕ))) → records_in st.StartRecord (rows_text rows) ≡ map read_back rows
unfolding rows_text next_record
lines_read [] = records_none (length {A = ℕ} [] + 1) st.StartRecord [] refl
lines_read (w ∷ ws) =
    records_more (length (csv.row_text default_writer w ++ rows_text ws) + 1) st.StartRecord (csv.row_text default_writer w ++ rows_text ws) (read_back w, st.StartRecord, rows_text ws) (omega arith) refl (read-write w (rows_text ws))
    ∙ ap (λ (rest : List (List (List ℕ))). read_back w ∷ rest) (lines_read ws)
