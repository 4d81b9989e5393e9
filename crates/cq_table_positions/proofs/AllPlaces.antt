-- All places, and as many as rows.
use Rattle.std.proofs.Common.{◌≡◌, ◌∙◌, ℕ, zero, suc, ◌+◌, ◌<◌, ◌≤◌, List, [], ◌∷◌, ◌++◌, length, get_or, refl, sym, subst, take, ap, ap₂, arith}
use Rattle.std.specs.List.{range_with_len}
use Rattle.std.proofs.lemmas.List.{length-map, take_more}
use Rattle.std.proofs.lemmas.Simd.{pick_l_whole}
use Rattle.cq_vectors_masks.proofs.WalkLemmas.{range_with_len-add}
use Rattle.cq_values.specs.Value.{Row}
use Rattle.cq_encodings_vectors.specs.Places.{AreBelow, rows_at}

-- there are as many rows as places
pub places-below : (rows : List Row) (all places : List ℕ) → AreBelow (length (rows_at rows all)) places → AreBelow (length all) places
places-below rows all [] below = tt
places-below rows all (place ∷ places) below = (omega (arith, below.0, length-map all (λ (p : ℕ). get_or rows p [])), places-below rows all places below.1)

-- the numbers so far are their places, and the next one
pub own-next : (numbers : List ℕ) (i : ℕ) → i < length numbers → get_or numbers i 0 ≡ i → take i numbers ≡ range_with_len 0 i → take (i + 1) numbers ≡ range_with_len 0 (i + 1)
own-next numbers i less is so_far =
    let here : i ≡ 0 + i = omega arith in
    take_more numbers i 0 less ∙ ap₂ (λ (a : List ℕ) (b : ℕ). a ++ b ∷ []) so_far is
    ∙ ap (λ (p : ℕ). range_with_len 0 i ++ p ∷ []) here ∙ sym (range_with_len-add 0 i 1)

-- the rows at all places are the rows
pub rows-whole : (rows : List Row) (places : List ℕ) → places ≡ range_with_len 0 (length rows) → rows ≡ rows_at rows places
rows-whole rows places are = sym (ap (rows_at rows) are ∙ pick_l_whole [] rows (length rows) refl)

from-below : (start count end : ℕ) → start + count ≤ end → AreBelow end (range_with_len start count)
from-below start zero end le = tt
from-below start (suc count) end le = (omega (arith, le), from-below (start + 1) count end (omega (arith, le)))

-- and these are below their end
pub own-below : (rows : List Row) (places : List ℕ) → places ≡ range_with_len 0 (length rows) → AreBelow (length rows) places
own-below rows places are = subst (AreBelow (length rows)) (sym are) (from-below 0 (length rows) (length rows) (omega arith))
