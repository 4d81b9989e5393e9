-- Items of lists of which each but the first has 1,024.
use Rattle.std.proofs.Common.{◌≡◌, ◌∙◌, ℕ, zero, suc, ◌+◌, ◌-◌, ◌*◌, ◌/◌, ◌%◌, ◌<◌, ◌≤◌, false, List, [], ◌∷◌, ◌++◌, length, length-append, drop, take, get_or, refl, sym, ap, ap₂, subst, arith}
use Rattle.std.specs.List.{AllByRecursion}
use Rattle.std.specs.Prelude.{slice_set}
use Rattle.std.proofs.Math.Nat.{div-add-mod}
use Rattle.std.proofs.Math.Seq.{drop-append-add, drop-nil}
use Rattle.std.proofs.lemmas.List.{drop-append-le, drop-drop, drop_more, get_or-drop, get_or_default, length-drop, length-take-le, take-append-drop}
use Rattle.std.proofs.lemmas.List.Concat.{get_or-flat_map}
use Rattle.cq_model_bags.proofs.Lists.{all-append, all-at, all-drop, all-take}
use Rattle.cq_segments_pieces.specs.Marked.{MarkedRow, marked_count, marks_of, rows_of, with_mark}
use Rattle.cq_segments_pieces.specs.Pieces.{joined}
use Rattle.cq_segments_pieces.proofs.Marks.{count-mark, length-mark, mark-at, mark-behind, mark-in-front, row-at}
use Rattle.cq_segments_pieces.proofs.PieceLists.{joined-append, joined-at, joined-set}
use Rattle.cq_writestore.specs.Spots.{AreHeld, IsIn}
use Rattle.cq_writestore_rows.specs.NewRows.{AreWhole}

-- ---- whole lists

-- one item in its place
all-set : {X : Type 0} (P : X → Type 0) (xs : List X) (i : ℕ) (x : X) → AllByRecursion P xs → P x → AllByRecursion P (slice_set xs i x)
all-set P [] i x all here = tt
all-set P (y ∷ ys) zero x all here = (here, all.1)
all-set P (y ∷ ys) (suc i) x all here = (all.0, all-set P ys i x all.1 here)

module _ {X : Type 0} where
  abbrev IsWhole : List X → Type 0
  IsWhole list = length list ≡ 1024

  pub whole-length : (lists : List (List X)) → AreWhole lists → length (joined lists) ≡ 1024 * length lists
  whole-length [] whole = refl
  whole-length (list ∷ lists) whole = omega (arith, length-append list (joined lists), whole.0, whole-length lists whole.1)

  -- also behind a first one
  pub length-behind : (lists : List (List X)) → AreWhole (drop 1 lists) → 0 < length lists → length (joined lists) ≡ length (get_or lists 0 []) + 1024 * (length lists - 1)
  length-behind [] whole some = absurd (omega (arith, some))
  length-behind (list ∷ lists) whole some = omega (arith, length-append list (joined lists), whole-length lists whole)

  -- those behind a place
  pub whole-later : (lists : List (List X)) (k : ℕ) → AreWhole (drop 1 lists) → AreWhole (drop (k + 1) lists)
  whole-later [] k whole = subst AreWhole (sym (drop-nil (k + 1))) tt
  whole-later (list ∷ lists) k whole = subst AreWhole (ap (λ (n : ℕ). drop n (list ∷ lists)) {x = suc k} {y = k + 1} (omega arith)) (all-drop IsWhole k lists whole)

  -- and behind the first ones
  pub whole-behind : (lists : List (List X)) (k : ℕ) → AreWhole (drop 1 lists) → AreWhole (drop 1 (drop k lists))
  whole-behind lists k whole = subst AreWhole (sym (drop-drop 1 k lists)) (whole-later lists k whole)

  -- which have no more items than all
  pub few-behind : (lists : List (List X)) (k : ℕ) → length (joined (drop k lists)) ≤ length (joined lists)
  few-behind lists k =
      omega (
        arith,
        ap (λ (ls : List (List X)). length (joined ls)) (take-append-drop k lists),
        ap length (joined-append (take k lists) (drop k lists)),
        length-append (joined (take k lists)) (joined (drop k lists)),
      )

  -- with a list of the same length in its place
  pub whole-set : (lists : List (List X)) (k : ℕ) (list : List X) → AreWhole (drop 1 lists) → k < length lists → length list ≡ length (get_or lists k []) → AreWhole (drop 1 (slice_set lists k list))
  whole-set [] k list whole lt same = absurd (omega (arith, lt))
  whole-set (l ∷ ls) zero list whole lt same = whole
  whole-set (l ∷ ls) (suc k) list whole lt same = all-set IsWhole ls k list whole (same ∙ all-at IsWhole ls k [] (omega (arith, lt)) whole)

  -- and with whole ones more
  pub whole-append : (lists more : List (List X)) → AreWhole (drop 1 lists) → AreWhole more → AreWhole (drop 1 (lists ++ more))
  whole-append [] [] whole rest = tt
  whole-append [] (list ∷ more) whole rest = rest.1
  whole-append (list ∷ lists) more whole rest = all-append IsWhole lists more whole rest

  -- ---- where an item stands

  -- in the first list
  pub in-first : (lists : List (List X)) (place : ℕ) → 0 < length lists → place < length (get_or lists 0 []) → IsIn lists place 0 place
  in-first lists place some lt = record { there = some; within = lt; before = omega arith }

  -- in one behind it
  pub in-behind : (lists : List (List X)) (place behind : ℕ) → AreWhole (drop 1 lists) → 0 < length lists → length (get_or lists 0 []) + behind ≡ place → behind / 1024 < length lists - 1 → IsIn lists place (behind / 1024 + 1) (behind % 1024)
  in-behind [] place behind whole some is lt = absurd (omega (arith, some))
  in-behind (list ∷ lists) place behind whole some is lt =
      let k = behind / 1024 in
      let low : k < length lists = omega (arith, lt) in
      let next : k + 1 ≡ suc k = omega arith in
      let here = ap (λ (n : ℕ). length (get_or (list ∷ lists) n [])) next ∙ all-at IsWhole lists k [] low whole in
      let front = ap (λ (n : ℕ). length (joined (take n (list ∷ lists)))) next ∙ length-append list (joined (take k lists)) in
      record {
        there = omega (arith, low);
        within = omega (arith, here, div-add-mod behind 1024);
        before = omega (arith, front, is, whole-length (take k lists) (all-take IsWhole k lists whole), length-take-le k lists (omega (arith, low)), div-add-mod behind 1024);
      }

  -- or behind all of them
  pub behind-all : (lists : List (List X)) (place behind : ℕ) → AreWhole (drop 1 lists) → 0 < length lists → length (get_or lists 0 []) + behind ≡ place → length lists - 1 ≤ behind / 1024 → length (joined lists) + (behind - 1024 * (length lists - 1)) ≡ place
  behind-all lists place behind whole some is past = omega (arith, length-behind lists whole some, is, past, div-add-mod behind 1024)

  module _ (lists : List (List X)) (place k at : ℕ) (is : IsIn lists place k at) where
    abbrev front : List X
    front = joined (take k lists)

    abbrev here : List X
    here = get_or lists k []

    abbrev back : List X
    back = joined (drop (k + 1) lists)

    pub in_all : place < length (joined lists)
    in_all = omega (arith, is.before, is.within, ap length (joined-at lists k is.there), length-append front (here ++ back), length-append here back)

    -- what stands there
    pub item_in : (d : X) → get_or (joined lists) place d ≡ get_or here at d
    item_in d = ap (λ (n : ℕ). get_or (joined lists) n d) (sym is.before) ∙ get_or-flat_map (λ (l : List X). l) lists k at [] d is.there is.within

    -- what is left from there on
    pub drop_in : drop place (joined lists) ≡ drop at here ++ back
    drop_in =
        ap (drop place) (joined-at lists k is.there) ∙ ap (λ (n : ℕ). drop n (front ++ (here ++ back))) (sym is.before)
        ∙ drop-append-add front (here ++ back) at ∙ drop-append-le at here back (omega (arith, is.within))

    -- the lists from its list on
    module _ (rest : List (List X)) (left : rest ≡ drop k lists) where
      pub some_left : 0 < length rest
      some_left = omega (arith, is.there, ap length left, length-drop k lists)

      module _ (list : List X) (read : list ≡ get_or rest 0 list) where
        list_is : list ≡ here
        list_is =
            read ∙ get_or_default rest 0 list [] some_left ∙ ap (λ l. get_or l 0 []) left ∙ get_or-drop k lists 0 []
            ∙ ap (λ (n : ℕ). get_or lists n []) {x = k + 0} {y = k} (omega arith)

        pub cut_inside : at < length list
        cut_inside = omega (arith, is.within, ap length list_is)

        -- of which the first is cut
        abbrev pub cut_lists : List (List X)
        cut_lists = slice_set rest 0 (drop at list)

        cut_is : cut_lists ≡ drop at here ∷ drop (k + 1) lists
        cut_is = ap₂ (λ l x. slice_set l 0 (drop at x)) (left ∙ drop_more lists k [] is.there) list_is

        pub joined-cut : joined cut_lists ≡ drop place (joined lists)
        joined-cut = ap joined cut_is ∙ sym drop_in

        pub whole-cut : AreWhole (drop 1 lists) → AreWhole (drop 1 cut_lists)
        whole-cut whole = subst (λ l. AreWhole (drop 1 l)) (sym cut_is) (whole-later lists k whole)

-- ---- rows with their marks

module _ (lists : List (List MarkedRow)) (place k at : ℕ) (is : IsIn lists place k at) (list : List MarkedRow) (read : list ≡ get_or lists k list) where
  here_is : list ≡ get_or lists k []
  here_is = read ∙ get_or_default lists k list [] is.there

  inside : at < length list
  inside = omega (arith, is.within, ap length here_is)

  abbrev blank : MarkedRow
  blank = record { row = []; marked = false }

  stands : get_or list at blank ≡ get_or (joined lists) place blank
  stands = ap (λ l. get_or l at blank) here_is ∙ sym (item_in lists place k at is blank)

  pub mark_read : get_or (marks_of list) at false ≡ get_or (marks_of (joined lists)) place false
  mark_read = mark-at list at blank inside ∙ ap (λ (m : MarkedRow). m.marked) stands ∙ sym (mark-at (joined lists) place blank (in_all lists place k at is))

  pub row_read : get_or (rows_of list) at [] ≡ get_or (rows_of (joined lists)) place []
  row_read = row-at list at blank inside ∙ ap (λ (m : MarkedRow). m.row) stands ∙ sym (row-at (joined lists) place blank (in_all lists place k at is))

  -- a mark at the place is a mark in its list
  pub mark_in : joined (slice_set lists k (with_mark at list)) ≡ with_mark place (joined lists)
  mark_in =
      let front = joined (take k lists) in
      let back = joined (drop (k + 1) lists) in
      joined-set lists k (with_mark at list) is.there
      ∙ ap (λ l. front ++ l) (sym (mark-in-front list back at inside))
      ∙ sym (mark-behind front (list ++ back) at)
      ∙ ap₂ with_mark is.before (ap (λ l. front ++ (l ++ back)) here_is ∙ sym (joined-at lists k is.there))

  -- and one more, where there was none
  pub held-marked : (len marked : ℕ) → AreHeld lists len marked → get_or (marks_of list) at false ≡ false → AreHeld (slice_set lists k (with_mark at list)) len (marked + 1)
  held-marked len marked held free = record {
    whole = whole-set lists k (with_mark at list) held.whole is.there (length-mark list at ∙ ap length here_is);
    rows = omega (arith, held.rows, ap length mark_in, length-mark (joined lists) place);
    marks = omega (arith, held.marks, ap marked_count mark_in, count-mark (joined lists) place (in_all lists place k at is) (sym mark_read ∙ free));
  }
