-- Segments that are built of rows.
use Rattle.std.proofs.Common.{◌≡◌, ℕ, ◌+◌, ◌-◌, ◌<◌, List, [], ◌∷◌, ◌++◌, map, take, drop, length, refl, sym, subst, ap, ◌∙◌, arith}
use Rattle.std.specs.Prelude.{min}
use Rattle.std.proofs.lemmas.List.{append_assoc, drop-drop, drop-map, length-drop, take-append-drop, take-map}
use Rattle.cq_values.specs.Value.{Row}
use Rattle.cq_model_bags.specs.Canonical.{bag_of}
use Rattle.cq_model_bags.proofs.Canonicals.{bag_of-same, bag_of-weights, length-bag_of, times_in-append}
use Rattle.cq_model_bags.proofs.Sorts.{SameBag-permutation}
use Rattle.cq_segments_pieces.specs.Marked.{MarkedRow, live, marked_count}
use Rattle.cq_segments_pieces.specs.Pieces.{joined}
use Rattle.cq_segments.specs.Sorted.{IsBuilt}
use Rattle.cq_table.specs.Changes.{AreBuilt}
use Rattle.cq_table.specs.Table.{SameRows}
use Rattle.cq_segments_pieces.proofs.Marks.{count-append, count-unmarked, length-live, live-append}
use Rattle.cq_table.proofs.Moved.{as_often}
use Rattle.cq_table.proofs.RowLists.{drop-least, take-least}

-- bags of rows that are put together
bag_both : (xs ys us vs : List Row) → bag_of xs ≡ bag_of us → bag_of ys ≡ bag_of vs → bag_of (xs ++ ys) ≡ bag_of (us ++ vs)
bag_both xs ys us vs first second =
    bag_of-same (xs ++ ys) (us ++ vs) (λ r. omega (arith, times_in-append xs ys r, times_in-append us vs r, as_often xs us first r, as_often ys vs second r))

module _ (sort : List ℕ) where
  -- segments have the rows that they were built of
  pub same-built : (rows : List Row) (made : List (List MarkedRow)) → AreBuilt sort rows made → SameRows (live (joined made)) rows
  same-built rows [] none = ap bag_of (sym none)
  same-built rows (segment ∷ made) built =
      let first = take 65536 rows in
      let rest = drop 65536 rows in
      ap bag_of (live-append segment (joined made))
      ∙ bag_both (live segment) (live (joined made)) first rest (bag_of-weights (live segment) first (SameBag-permutation first (live segment) built.1.same)) (same-built rest made built.2)
      ∙ ap bag_of (take-append-drop 65536 rows)

  -- none of these has a mark
  pub new-clear : (rows : List Row) (made : List (List MarkedRow)) → AreBuilt sort rows made → marked_count (joined made) ≡ 0
  new-clear rows [] none = refl
  new-clear rows (segment ∷ made) built =
      let none : marked_count segment ≡ 0 = ap marked_count built.1.none_marked ∙ count-unmarked (live segment) in
      omega (arith, none, count-append segment (joined made), new-clear (drop 65536 rows) made built.2)

  -- they are as many
  pub length-built : (rows : List Row) (made : List (List MarkedRow)) → AreBuilt sort rows made → length (joined made) ≡ length rows
  length-built rows made built =
      omega (
        arith,
        new-clear rows made built,
        length-live (joined made),
        length-bag_of (live (joined made)),
        ap length (same-built rows made built),
        length-bag_of rows,
      )

  -- with segments of the rows that are left, those so far are built of all
  abbrev pub BuiltWith : List Row → List Row → List (List MarkedRow) → Type 0
  BuiltWith all left made = (next : List (List MarkedRow)) → AreBuilt sort left next → AreBuilt sort all (made ++ next)

  -- and so they are with one segment more
  pub built-more : (all left part rest : List Row) (made : List (List MarkedRow)) (segment : List MarkedRow) → 0 < length left → part ≡ take 65536 left → rest ≡ drop 65536 left
      → IsBuilt part sort segment → BuiltWith all left made → BuiltWith all rest (made ++ segment ∷ [])
  built-more all left part rest made segment some is_part is_rest one so_far next built =
      subst (AreBuilt sort all) (sym (append_assoc made (segment ∷ []) next))
      (so_far (segment ∷ next) (some, subst (λ (rows : List Row). IsBuilt rows sort segment) is_part one, subst (λ (rows : List Row). AreBuilt sort rows next) is_rest built))

-- ---- The next rows
module _ {X : Type 0} (f : X → Row) (xs : List X) (from n : ℕ) (least : n ≡ min (length xs - from) 65536) where
  many : n ≡ min (length (drop from xs)) 65536
  many = omega (arith, least, length-drop from xs)

  -- those of the next segment are the first of those that are left
  pub next-part : map f (take (from + n - from) (drop from xs)) ≡ take 65536 (map f (drop from xs))
  next-part =
      let same : from + n - from ≡ n = omega arith in
      ap (λ (k : ℕ). map f (take k (drop from xs))) same ∙ ap (map f) (take-least 65536 (drop from xs) n many) ∙ sym (take-map f 65536 (drop from xs))

  -- and the others are left behind it
  pub next-rest : map f (drop (from + n) xs) ≡ drop 65536 (map f (drop from xs))
  next-rest = ap (map f) (sym (drop-drop n from xs) ∙ drop-least 65536 (drop from xs) n many) ∙ sym (drop-map f 65536 (drop from xs))
