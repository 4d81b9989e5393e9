use Rattle.std.proofs.Common.{◌≡◌, ◌∙◌, ap, length, sym}
use Rattle.std.specs.List.{range_with_len}
use Rattle.cq_encodings_vectors.specs.Places.{rows_at}
use Rattle.cq_table_columns.specs.Stored.{front_rows}
use Rattle.cq_table_columns.specs.declared.front.Front.{Front}
use Rattle.cq_table_positions.proofs.AllPlaces.{rows-whole}
use Rattle.cq_table_positions.proofs.stored_rows.all_of.Goals as goal

pub returns-then-are_all : goal.returns-then-are_all
returns-then-are_all c =
    let rows = c.in-Columns.columns.now in
    let places = c.args.places.now in
    let all : places ≡ range_with_len 0 (length rows) = c.if-are_all.ensures ∙ ap (range_with_len 0) c.len.ensures.len in
    rows-whole rows places all ∙ sym (ap (λ (f : Front). rows_at (front_rows f) places) c.in-Columns.is)
