-- Pieces and bounds, one more.
use Rattle.std.proofs.Common.{◌≡◌, ◌⊎◌, false, inl, inr, ◌∙◌, ℕ, ◌+◌, ◌-◌, ◌*◌, ◌<◌, ◌≤◌, List, [], ◌∷◌, ◌++◌, min, length, length-append, drop, take, get_or, sym, ap, ap₂, subst, arith}
use Rattle.std.proofs.Math.Seq.{get_or-append_seam, take-add}
use Rattle.std.proofs.lemmas.Bool.{cases_lt}
use Rattle.std.proofs.lemmas.List.{get_or_append_left, get_or_default, length-drop, length-map, length-take}
use Rattle.std.proofs.lemmas.List.Elements.{recursion_from_All}
use Rattle.cq_values.specs.Value.{Row}
use Rattle.cq_vectors.specs.Gathered.{column_of}
use Rattle.cq_encodings_numbers.specs.Bounds.{AreBounds}
use Rattle.cq_segments_pieces.specs.Marked.{MarkedRow, unmarked}
use Rattle.cq_segments_pieces.specs.Pieces.{AreFull, joined}
use Rattle.cq_segments.specs.Segment.{HaveBounds}
use Rattle.cq_segments.specs.declared.held_bounds.HeldBounds.{HeldBounds}
use Rattle.cq_segments_pieces.proofs.Marks.{unmarked-append}
use Rattle.cq_segments_pieces.proofs.PieceLists.{joined-more}

-- what holds at each place and of one item more holds at each place of both
pub each-more : {X : Type 0} (P : ℕ → X → Type 0) (d : X) (xs : List X) (x : X) → ((k : ℕ) → k < length xs → P k (get_or xs k d)) → P (length xs) x → (k : ℕ) → k < length (xs ++ x ∷ []) → P k (get_or (xs ++ x ∷ []) k d)
each-more P d xs x each here k lt = by_place (cases_lt k (length xs))
  where
    by_place : (k < length xs) ⊎ (length xs ≤ k) → P k (get_or (xs ++ x ∷ []) k d)
    by_place (inl less) = subst (P k) (sym (get_or_append_left xs (x ∷ []) d k less)) (each k less)
    by_place (inr past) =
        let same : length xs ≡ k = omega (arith, past, lt, length-append xs (x ∷ [])) in
        subst (λ (n : ℕ). P n (get_or (xs ++ x ∷ []) n d)) same (subst (P (length xs)) (sym (get_or-append_seam xs x [] d)) here)

-- the bounds of one column more
pub bounds-more : (rows : List Row) (made : List HeldBounds) (bounds : HeldBounds) → HaveBounds made rows → AreBounds bounds.has_null bounds.ends (column_of rows (length made)) → HaveBounds (made ++ bounds ∷ []) rows
bounds-more rows made bounds have here at b lt = each-more (λ k x. AreBounds x.has_null x.ends (column_of rows k)) b made bounds (λ k less. have k b less) here at lt

module _ (rows : List Row) (k : ℕ) (made : List (List MarkedRow)) (piece : List MarkedRow) (holds : piece ≡ unmarked (take 1024 (drop (1024 * k) rows))) where
  -- the rows of one piece more
  pub piece-more : joined made ≡ unmarked (take (1024 * k) rows) → joined (made ++ piece ∷ []) ≡ unmarked (take (1024 * (k + 1)) rows)
  piece-more so_far =
      joined-more made piece ∙ ap₂ (λ a b. a ++ b) so_far holds
      ∙ sym (unmarked-append (take (1024 * k) rows) (take 1024 (drop (1024 * k) rows)))
      ∙ ap unmarked (sym (take-add (1024 * k) 1024 rows))
      ∙ ap (λ (n : ℕ). unmarked (take n rows)) {x = 1024 * k + 1024} {y = 1024 * (k + 1)} (omega arith)

  length-piece : length piece ≡ min 1024 (length rows - 1024 * k)
  length-piece =
      let left = drop (1024 * k) rows in
      ap length holds ∙ length-map (take 1024 left) (λ (row : Row). record { row = row; marked = false })
      ∙ length-take 1024 left ∙ ap (min 1024) (length-drop (1024 * k) rows)

  -- and how many they are
  pub lengths-more : length made ≡ k → ((j : ℕ) → j < length made → length (get_or made j []) ≡ min 1024 (length rows - 1024 * j))
      → (j : ℕ) → j < length (made ++ piece ∷ []) → length (get_or (made ++ piece ∷ []) j []) ≡ min 1024 (length rows - 1024 * j)
  lengths-more count so_far = each-more (λ j p. length p ≡ min 1024 (length rows - 1024 * j)) [] made piece so_far (rw count length-piece)

-- pieces that have 1,024 rows each, or as many as are left, are full
pub full_pieces : (pieces : List (List MarkedRow)) (len : ℕ) → 1024 * length pieces < len + 1024 → ((k : ℕ) → k < length pieces → length (get_or pieces k []) ≡ min 1024 (len - 1024 * k)) → AreFull pieces
full_pieces pieces len short each = record {
  few = recursion_from_All (λ (p : List MarkedRow). length p ≤ 1024) pieces (λ k d lt. omega (arith, each k lt, ap length (get_or_default pieces k d [] lt)));
  full = λ k less. omega (arith, each k (omega (arith, less)), short, less);
}
