-- Rows that become a piece.
use Rattle.std.proofs.Common.{◌≡◌, ◌∙◌, ◌+◌, ◌<◌, ◌^◌, ◌++◌, ◌∷◌, [], false, List, length, length-append, sym, ap, arith}
use Rattle.std.proofs.lemmas.List.{append-nil, length-map, map-append}
use Rattle.cq_model_bags.proofs.Lists.{all-push}
use Rattle.cq_values.specs.Value.{Row}
use Rattle.cq_segments_pieces.specs.Marked.{MarkedRow, rows_of, unmarked}
use Rattle.cq_segments_pieces.specs.Pieces.{joined}
use Rattle.cq_segments_pieces.proofs.Marks.{rows_of-unmarked}
use Rattle.cq_segments_pieces.proofs.PieceLists.{joined-more}
use Rattle.cq_writestore_rows.specs.NewRows.{AreFresh}

-- one row more behind the pieces
pub fresh_one : (pieces : List (List MarkedRow)) (rows : List Row) (row : Row) → AreFresh pieces rows → length (rows_of (joined pieces) ++ rows) + 1 < 2 ^ 63 → AreFresh pieces (rows ++ row ∷ [])
fresh_one pieces rows row are few = record {
  whole = are.whole;
  fresh = are.fresh;
  small = omega (arith, few, length-append (rows_of (joined pieces)) rows, length-map (joined pieces) (λ (m : MarkedRow). m.row), length-append rows (row ∷ []));
}

module _ (pieces : List (List MarkedRow)) (rows : List Row) (are : AreFresh pieces rows) (full : length rows ≡ 1024) (piece : List MarkedRow) (made : piece ≡ unmarked rows) where
  abbrev held : List MarkedRow
  held = joined pieces

  count : length (unmarked rows) ≡ length rows
  count = length-map {B = MarkedRow} rows (λ (row : Row). record { row = row; marked = false })

  more : joined (pieces ++ piece ∷ []) ≡ held ++ unmarked rows
  more = joined-more pieces piece ∙ ap (λ l. held ++ l) made

  -- the rows are those of the pieces with the new one
  rows_held : rows_of (joined (pieces ++ piece ∷ [])) ≡ rows_of held ++ rows
  rows_held = ap rows_of more ∙ map-append (λ (m : MarkedRow). m.row) held (unmarked rows) ∙ ap (λ l. rows_of held ++ l) (rows_of-unmarked rows)

  pub rows_more : rows_of (joined (pieces ++ piece ∷ [])) ++ [] ≡ rows_of held ++ rows
  rows_more = append-nil (rows_of (joined (pieces ++ piece ∷ []))) ∙ rows_held

  pub fresh_more : AreFresh (pieces ++ piece ∷ []) []
  fresh_more = record {
    whole = all-push (λ (l : List MarkedRow). length l ≡ 1024) pieces piece are.whole (ap length made ∙ count ∙ full);
    fresh = more ∙ ap (λ l. l ++ unmarked rows) are.fresh ∙ sym (map-append {B = MarkedRow} (λ (row : Row). record { row = row; marked = false }) (rows_of held) rows) ∙ ap unmarked (sym rows_held);
    small = omega (arith, ap length more, length-append held (unmarked rows), count, are.small);
  }
