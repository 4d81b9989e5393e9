-- Columns of pieces.
use Rattle.std.proofs.Common.{◌≡◌, ◌∙◌, ℕ, suc, ◌+◌, ◌*◌, ◌<◌, ◌≤◌, Bool, false, List, [], ◌∷◌, ◌++◌, get_or, length, map, take, drop, refl, ap, ap₂, arith}
use Rattle.std.specs.Simd.Lanes.{zip2}
use Rattle.std.proofs.lemmas.List.{map-append, take_all, take_more}
use Rattle.cq_values.specs.Value.{Row, column}
use Rattle.cq_values.specs.declared.value.Value.{Value}
use Rattle.cq_vectors.specs.Gathered.{column_of}
use Rattle.cq_segments_pieces.specs.Marked.{MarkedRow, rows_of}
use Rattle.cq_segments_pieces.specs.Pieces.{joined}
use Rattle.cq_segments_pieces.proofs.Marks.{rows_of-append}
use Rattle.cq_segments_pieces.proofs.PieceLists.{joined-more}

-- where no flag is set, each part makes a value
pub zip_clear : {A : Type 0} (unless : A → Bool → Value) (parts : List A) (flags : List Bool) → length flags ≡ length parts → ((k : ℕ) → get_or flags k false ≡ false)
    → zip2 unless parts flags ≡ map (λ part. unless part false) parts
zip_clear unless [] flags long clear = refl
zip_clear unless (part ∷ parts) [] long clear = absurd (omega (arith, long))
zip_clear unless (part ∷ parts) (flag ∷ flags) long clear =
    ap₂ (λ (v : Value) (vs : List Value). v ∷ vs) (ap (unless part) (clear 0)) (zip_clear unless parts flags (omega (arith, long)) (λ k. clear (suc k)))

-- the flags of at most 1,024 values are those of their first plane
pub first_plane : (flags : List Bool) → length flags ≤ 1024 → take 1024 (drop (1024 * 0) flags) ≡ flags
first_plane flags few = take_all 1024 flags few

module _ (pieces : List (List MarkedRow)) (i : ℕ) (piece : List MarkedRow) (lt : i < length pieces) (read : get_or pieces i [] ≡ piece) where
  -- the rows of one piece more
  pub rows-more : rows_of (joined (take (i + 1) pieces)) ≡ rows_of (joined (take i pieces)) ++ rows_of piece
  rows-more =
      ap (λ (l : List (List MarkedRow)). rows_of (joined l)) (take_more pieces i [] lt ∙ ap (λ (p : List MarkedRow). take i pieces ++ p ∷ []) read)
      ∙ ap rows_of (joined-more (take i pieces) piece) ∙ rows_of-append (joined (take i pieces)) piece

  -- and a column of them
  pub column-more : (at : ℕ) → column_of (rows_of (joined (take (i + 1) pieces))) at ≡ column_of (rows_of (joined (take i pieces))) at ++ column_of (rows_of piece) at
  column-more at = ap (λ (rows : List Row). column_of rows at) rows-more ∙ map-append (λ row. column row at) (rows_of (joined (take i pieces))) (rows_of piece)
