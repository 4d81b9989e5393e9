-- How many rows of pieces have a mark.
use Rattle.std.proofs.Common.{◌≡◌, ◌∙◌, ℕ, ◌+◌, ◌<◌, ◌≤◌, List, [], length, take, get_or, sym, ap, arith}
use Rattle.std.proofs.lemmas.List.{get_or_default, take_more}
use Rattle.std.proofs.lemmas.List.Folds.{length-flat_map-take}
use Rattle.cq_segments_pieces.specs.Marked.{MarkedRow, marked_count}
use Rattle.cq_segments_pieces.specs.Pieces.{joined}
use Rattle.cq_segments_pieces.proofs.Marks.{count-append, length-live}
use Rattle.cq_segments_pieces.proofs.PieceLists.{joined-more}

-- no more marks than rows
pub few_marks : (stored : List MarkedRow) → marked_count stored ≤ length stored
few_marks stored = omega (arith, length-live stored)

module _ (pieces : List (List MarkedRow)) (i : ℕ) (lt : i < length pieces) (piece : List MarkedRow) (read : piece ≡ get_or pieces i piece) where
  is_there : piece ≡ get_or pieces i []
  is_there = read ∙ get_or_default pieces i piece [] lt

  -- the marks of one piece more
  pub count-more : marked_count (joined (take (i + 1) pieces)) ≡ marked_count (joined (take i pieces)) + marked_count piece
  count-more =
      ap (λ l. marked_count (joined l)) (take_more pieces i [] lt) ∙ ap marked_count (joined-more (take i pieces) (get_or pieces i []))
      ∙ count-append (joined (take i pieces)) (get_or pieces i []) ∙ ap (λ l. marked_count (joined (take i pieces)) + marked_count l) (sym is_there)

  -- are no more than rows
  pub few-more : marked_count (joined (take i pieces)) + marked_count piece ≤ length (joined pieces)
  few-more =
      omega (arith, few_marks (joined (take i pieces)), few_marks piece, ap length is_there, length-flat_map-take (λ (l : List MarkedRow). l) pieces i [] lt)
