-- Keys that are listed, 1,024 at a time.
use Rattle.std.proofs.Common.{◌≡◌, ◌≤◌, ◌+◌, ℕ, List, ◌++◌, length, map, take, drop, sym, ap, ap₂, ◌∙◌, arith}
use Rattle.std.specs.List.{AllByRecursion, range_with_len}
use Rattle.std.proofs.lemmas.List.{drop-take, length-drop, length-take-le, take-append-drop, take-take}
use Rattle.cq_values.specs.declared.value.Value.{Value}
use Rattle.cq_values.specs.Value.{Row}
use Rattle.cq_vectors.specs.Batch.{row_at}
use Rattle.cq_vectors.specs.Gathered.{column_of}
use Rattle.cq_model_bags.proofs.Lists.{all-drop, all-take}
use Rattle.cq_hash_keys.specs.Keys.{HasValues}
use Rattle.cq_segments_pieces.proofs.Transposed.{rebuilt}

-- ---- the keys from a number on
abbrev pub part : ℕ → ℕ → List Row → List Row
part start len keys = take len (drop start keys)

-- their columns make up the same keys
pub part-rebuilt : (width start len : ℕ) (keys : List Row) (columns : List (List Value)) (places : List ℕ) → AllByRecursion (HasValues width) keys → start + len ≤ length keys
    → columns ≡ map (column_of (part start len keys)) (range_with_len 0 width) → places ≡ range_with_len 0 len → map (row_at columns) places ≡ part start len keys
part-rebuilt width start len keys columns places wide within are all =
    let rows = part start len keys in
    let count : length rows ≡ len = length-take-le len (drop start keys) (omega (arith, within, length-drop start keys)) in
    ap₂ (λ (cs : List (List Value)) (ps : List ℕ). map (row_at cs) ps) are (all ∙ ap (range_with_len 0) (sym count))
    ∙ rebuilt rows width (all-take (HasValues width) len (drop start keys) (all-drop (HasValues width) start keys wide))

-- the keys so far and the next ones are the keys up to the next number
pub part-next : (start len : ℕ) (keys : List Row) → take start keys ++ part start len keys ≡ take (start + len) keys
part-next start len keys =
    ap₂ (λ (rows more : List Row). rows ++ more) (sym (take-take start (start + len) keys (omega arith))) (sym (drop-take start len keys))
    ∙ take-append-drop start (take (start + len) keys)
