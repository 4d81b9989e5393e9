-- Rows that are copied from where they stand, one after the other.
use Rattle.std.proofs.Common.{◌≡◌, ◌∙◌, ℕ, ◌<◌, List, length, get_or, sym, ap, arith}
use Rattle.std.proofs.lemmas.List.{get_or-map, length-map}
use Rattle.cq_segments_pieces.specs.Rows.{row_of, stored_rows}
use Rattle.cq_segments_pieces.specs.declared.stored_row.StoredRow.{StoredRow}

module _ (rows : List StoredRow) (place : ℕ) (row : StoredRow) (lt : place < length rows) (is : row ≡ get_or rows place row) where
  -- the next one is among them
  pub within : place < length (stored_rows rows)
  within = omega (arith, lt, length-map rows row_of)

  pub next-is : row_of row ≡ get_or (stored_rows rows) place (row_of row)
  next-is = ap row_of is ∙ sym (get_or-map row_of rows place row (row_of row) lt)
