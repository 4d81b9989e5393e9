-- Segments of pieces as they stand.
use Rattle.std.proofs.Common.{◌≡◌, ◌∙◌, ℕ, zero, suc, ◌+◌, ◌-◌, ◌*◌, ◌<◌, ◌≤◌, List, [], ◌∷◌, ◌++◌, length, take, drop, refl, sym, subst, ap, ap₂, arith}
use Rattle.std.specs.List.{AllByRecursion}
use Rattle.std.proofs.lemmas.List.{append_assoc, drop-append-le, drop-take, drop_all, length-append, length-drop, length-map, length-take, take-append-drop, take-append-le, take-take, take_all}
use Rattle.cq_model_bags.proofs.Lists.{all-back, all-drop, all-front, all-take, all-weaker}
use Rattle.cq_model_bags.proofs.Totals.{by_test}
use Rattle.cq_segments_pieces.specs.Columns.{AreWide}
use Rattle.cq_segments_pieces.specs.Marked.{MarkedRow, live, rows_of, unmarked}
use Rattle.cq_segments_pieces.specs.Pieces.{joined}
use Rattle.cq_segments.specs.Sorted.{IsBuilt}
use Rattle.cq_segments_pieces.proofs.Marks.{live-append, live-unmarked, rows_of-append, unmarked-append}
use Rattle.cq_table.specs.Changes.{AreBuilt}
use Rattle.cq_table.specs.Whole.{AreWholeFirst, BuiltBefore, IsWhole}
use Rattle.cq_table.proofs.Segmenting.{joined-append}
use Rattle.cq_values.specs.Value.{Row}
use Rattle.cq_writestore_rows.specs.NewRows.{NoneMarked}
use Rattle.cq_writestore_rows.proofs.WholeLists.{whole-length}

-- whole pieces have no mark
pub whole-fresh : (pieces : List (List MarkedRow)) → AllByRecursion IsWhole pieces → NoneMarked (joined pieces)
whole-fresh [] whole = refl
whole-fresh (piece ∷ pieces) whole =
    ap₂ (λ (xs ys : List MarkedRow). xs ++ ys) whole.0.fresh (whole-fresh pieces whole.1)
    ∙ sym (ap unmarked (rows_of-append piece (joined pieces)) ∙ unmarked-append (rows_of piece) (rows_of (joined pieces)))

-- and 1,024 rows each
pub whole-rows : (pieces : List (List MarkedRow)) → AllByRecursion IsWhole pieces → length (joined pieces) ≡ 1024 * length pieces
whole-rows pieces whole = whole-length pieces (all-weaker IsWhole (λ piece. length piece ≡ 1024) (λ piece is. is.long) pieces whole)

-- fewer pieces come first too
pub fewer-first : (pieces : List (List MarkedRow)) (few many : ℕ) → few ≤ many → AreWholeFirst pieces many → AreWholeFirst pieces few
fewer-first pieces few many le are = record {
  there = omega (arith, le, are.there);
  whole = subst (AllByRecursion IsWhole) (take-take few many pieces le) (all-take IsWhole few (take many pieces) are.whole);
}

-- the next items stand behind those so far
take-more : {X : Type 0} (n m : ℕ) (xs : List X) → take (n + m) xs ≡ take n xs ++ take m (drop n xs)
take-more n m xs =
    sym (take-append-drop n (take (n + m) xs))
    ∙ ap₂ (λ us vs. us ++ vs) (take-take n (n + m) xs (omega arith)) (drop-take n m xs)

module _ (pieces : List (List MarkedRow)) (count k : ℕ) (are : AreWholeFirst pieces (64 * count)) (lt : k < count) where
  -- the pieces of the next segment
  abbrev pub part : List (List MarkedRow)
  part = take 64 (drop (64 * k) pieces)

  -- they are lent by their bounds
  pub lent-part : take (64 * k + 64 - 64 * k) (drop (64 * k) pieces) ≡ part
  lent-part = ap (λ (n : ℕ). take n (drop (64 * k) pieces)) {x = 64 * k + 64 - 64 * k} {y = 64} (omega arith)

  within : 64 * k + 64 ≤ length pieces
  within = omega (arith, lt, are.there)

  whole-part : AllByRecursion IsWhole part
  whole-part =
      let next = fewer-first pieces (64 * k + 64) (64 * count) (omega (arith, lt)) are in
      subst (AllByRecursion IsWhole) (drop-take (64 * k) 64 pieces) (all-drop IsWhole (64 * k) (take (64 * k + 64) pieces) next.whole)

  pub part-rows : length (joined part) ≡ 65536
  part-rows = omega (arith, whole-rows part whole-part, within, length-take 64 (drop (64 * k) pieces), length-drop (64 * k) pieces)

  pub part-wide : (width : ℕ) → AreWide width (rows_of (joined pieces)) → AreWide width (rows_of (joined part))
  part-wide width wide =
      let P = λ (row : Row). length row ≡ width in
      let split : (n : ℕ) (ps : List (List MarkedRow)) → rows_of (joined ps) ≡ rows_of (joined (take n ps)) ++ rows_of (joined (drop n ps)) =
      λ n ps. ap (λ (l : List (List MarkedRow)). rows_of (joined l)) (sym (take-append-drop n ps)) ∙ ap rows_of (joined-append (take n ps) (drop n ps))
      ∙ rows_of-append (joined (take n ps)) (joined (drop n ps)) in
      let rest = drop (64 * k) pieces in
      let behind = all-back P (rows_of (joined (take (64 * k) pieces))) (rows_of (joined rest)) (subst (AreWide width) (split (64 * k) pieces) wide) in
      all-front P (rows_of (joined (take 64 rest))) (rows_of (joined (drop 64 rest))) (subst (AreWide width) (split 64 rest) behind)

  -- the rows of a segment more
  pub rows-more : rows_of (joined (take (64 * (k + 1)) pieces)) ≡ rows_of (joined (take (64 * k) pieces)) ++ rows_of (joined part)
  rows-more =
      let more : 64 * (k + 1) ≡ 64 * k + 64 = omega arith in
      ap (λ (n : ℕ). rows_of (joined (take n pieces))) more ∙ ap (λ (l : List (List MarkedRow)). rows_of (joined l)) (take-more (64 * k) 64 pieces)
      ∙ ap rows_of (joined-append (take (64 * k) pieces) part) ∙ rows_of-append (joined (take (64 * k) pieces)) (joined part)

-- with a segment of the next rows, more are built
pub before-more : (sort : List ℕ) (rows next : List Row) (made : List (List MarkedRow)) (segment : List MarkedRow) → length next ≡ 65536
    → BuiltBefore sort rows made → IsBuilt next sort segment → BuiltBefore sort (rows ++ next) (made ++ segment ∷ [])
before-more sort rows next made segment long so_far one rest others built =
    let first : take 65536 (next ++ rest) ≡ next = take-append-le 65536 next rest (omega (arith, long)) ∙ take_all 65536 next (omega (arith, long)) in
    let last : drop 65536 (next ++ rest) ≡ rest = drop-append-le 65536 next rest (omega (arith, long)) ∙ ap (λ (l : List Row). l ++ rest) (drop_all 65536 next (omega (arith, long))) in
    let here : AreBuilt sort (next ++ rest) (segment ∷ others) = (
      omega (arith, long, length-append next rest),
      subst (λ (l : List Row). IsBuilt l sort segment) (sym first) one,
      subst (λ (l : List Row). AreBuilt sort l others) (sym last) built,
    ) in
    subst (λ (l : List Row). AreBuilt sort l ((made ++ segment ∷ []) ++ others)) (sym (append_assoc rows next rest))
    (subst (AreBuilt sort (rows ++ (next ++ rest))) (sym (append_assoc made (segment ∷ []) others)) (so_far (next ++ rest) (segment ∷ others) here))

-- the live rows among the first ones are as wide as all
pub live-wide : (width n : ℕ) (stored : List MarkedRow) → AreWide width (rows_of stored) → AreWide width (live (take n stored))
live-wide width zero stored wide = tt
live-wide width (suc n) [] wide = tt
live-wide width (suc n) (m ∷ stored) wide =
    by_test m.marked (λ e. rw e (live-wide width n stored wide.1)) (λ e. rw e (wide.0, live-wide width n stored wide.1))

-- ---- in front of the rows that are built one by one

module _ (pieces : List (List MarkedRow)) (tail : List MarkedRow) (segments count : ℕ) (are : AreWholeFirst pieces (64 * segments)) (few : 65536 * segments ≤ count) where
  abbrev pub first : List (List MarkedRow)
  first = take (64 * segments) pieces

  abbrev pub behind : List MarkedRow
  behind = joined (drop (64 * segments) pieces) ++ tail

  split : joined pieces ++ tail ≡ joined first ++ behind
  split =
      ap (λ (l : List (List MarkedRow)). joined l ++ tail) (sym (take-append-drop (64 * segments) pieces))
      ∙ ap (λ (l : List MarkedRow). l ++ tail) (joined-append first (drop (64 * segments) pieces)) ∙ append_assoc (joined first) (joined (drop (64 * segments) pieces)) tail

  first-rows : length (joined first) ≡ 65536 * segments
  first-rows = omega (arith, whole-rows first are.whole, are.there, length-take (64 * segments) pieces)

  -- all first rows are live
  first-live : live (joined first) ≡ rows_of (joined first)
  first-live = ap live (whole-fresh first are.whole) ∙ live-unmarked (rows_of (joined first))

  -- what comes behind the first rows
  rest-taken : take count (joined pieces ++ tail) ≡ joined first ++ take (count - 65536 * segments) behind
  rest-taken =
      let left = count - 65536 * segments in
      let n = 65536 * segments in
      let all : length (joined first) ≤ n = omega (arith, first-rows) in
      let none : n ≤ length (joined first) = omega (arith, first-rows) in
      ap₂ (λ (k : ℕ) (l : List MarkedRow). take k l) {x = count} {y = n + left} (omega (arith, few)) split ∙ take-more n left (joined first ++ behind)
      ∙ ap₂ (λ (us vs : List MarkedRow). us ++ take left vs) (take-append-le n (joined first) behind none ∙ take_all n (joined first) all)
      (drop-append-le n (joined first) behind none ∙ ap (λ (l : List MarkedRow). l ++ behind) (drop_all n (joined first) all))

  -- the live ones among the rows are all first ones, and those behind them
  pub live-split : live (take count (joined pieces ++ tail)) ≡ rows_of (joined first) ++ live (take (count - 65536 * segments) behind)
  live-split =
      ap live rest-taken ∙ live-append (joined first) (take (count - 65536 * segments) behind)
      ∙ ap (λ (l : List Row). l ++ live (take (count - 65536 * segments) behind)) first-live

  -- so many are live behind them
  pub live-behind : length (live (joined pieces ++ tail)) ≡ 65536 * segments + length (live behind)
  live-behind =
      omega (
        arith,
        ap (λ (l : List MarkedRow). length (live l)) split,
        ap length (live-append (joined first) behind),
        length-append (live (joined first)) (live behind),
        ap length first-live,
        length-map (joined first) (λ (m : MarkedRow). m.row),
        first-rows,
      )

  -- and they are as wide
  pub wide-behind : (width : ℕ) → AreWide width (rows_of (joined pieces ++ tail)) → AreWide width (rows_of behind)
  wide-behind width wide =
      all-back (λ (row : Row). length row ≡ width) (rows_of (joined first)) (rows_of behind)
      (subst (AreWide width) (ap rows_of split ∙ rows_of-append (joined first) behind) wide)
