-- Lists of 1,024 items each, and no more in the last.
use Rattle.std.proofs.Common.{◌≡◌, ◌≢◌, ◌∙◌, true, false, ℕ, zero, suc, ◌+◌, ◌*◌, ◌/◌, ◌%◌, ◌<◌, ◌≤◌, ◌⊎◌, List, [], ◌∷◌, ◌++◌, length, length-append, drop, take, get_or, inl, inr, refl, sym, ap, ap₂, arith}
use Rattle.std.specs.Prelude.{slice_set}
use Rattle.std.proofs.Math.Dec.{eqb}
use Rattle.std.proofs.Math.Nat.{div-add-mod}
use Rattle.std.proofs.Math.Seq.{drop-length}
use Rattle.std.proofs.lemmas.Bool.{cases_lt}
use Rattle.std.proofs.lemmas.Bool.Decides.{eqb_tells}
use Rattle.std.proofs.lemmas.List.Elements.{All-from_recursion, All-set, recursion_from_All}
use Rattle.std.proofs.lemmas.Grind.{flat_map-append}
use Rattle.std.proofs.lemmas.List.{append-nil, drop-set-lt, drop_more, get_or-set_other, length-set, nil_from_length, take-append-drop, take-set, take_more}
use Rattle.std.proofs.lemmas.List.Concat.{get_or-flat_map}
use Rattle.std.proofs.lemmas.Grind.{get_or-set_at}
use Rattle.cq_model_bags.proofs.Lists.{all-at}
use Rattle.cq_segments_pieces.specs.Pieces.{AreFull, joined}

module _ {X : Type 0} where
  pub joined-append : (front back : List (List X)) → joined (front ++ back) ≡ joined front ++ joined back
  joined-append front back = flat_map-append (λ (l : List X). l) front back

  -- the lists before a place, the one there, and those behind it
  pub joined-at : (lists : List (List X)) (k : ℕ) → k < length lists → joined lists ≡ joined (take k lists) ++ (get_or lists k [] ++ joined (drop (k + 1) lists))
  joined-at lists k lt =
      ap joined (sym (take-append-drop k lists) ∙ ap (λ l. take k lists ++ l) (drop_more lists k [] lt))
      ∙ joined-append (take k lists) (get_or lists k [] ∷ drop (k + 1) lists)

  -- one list is another
  pub joined-set : (lists : List (List X)) (k : ℕ) (list : List X) → k < length lists → joined (slice_set lists k list) ≡ joined (take k lists) ++ (list ++ joined (drop (k + 1) lists))
  joined-set lists k list lt =
      joined-at (slice_set lists k list) k (omega (arith, lt, length-set lists k list))
      ∙ ap₂ (λ a b. joined a ++ b) (take-set lists k list)
      (ap₂ (λ a b. a ++ joined b) (get_or-set_at lists k k list [] refl lt) (drop-set-lt (k + 1) lists k list (omega arith)))

  -- one list more
  pub joined-more : (lists : List (List X)) (list : List X) → joined (lists ++ list ∷ []) ≡ joined lists ++ list
  joined-more lists list = joined-append lists (list ∷ []) ∙ ap (λ l. joined lists ++ l) (append-nil list)

  module _ (lists : List (List X)) (are : AreFull lists) where
    -- the lists before a place are full
    pub full-before : (k : ℕ) → k < length lists → length (joined (take k lists)) ≡ 1024 * k
    full-before zero lt = refl
    full-before (suc k) lt =
        let here : take (suc k) lists ≡ take k lists ++ get_or lists k [] ∷ [] = ap (λ (n : ℕ). take n lists) {x = suc k} {y = k + 1} (omega arith) ∙ take_more lists k [] (omega (arith, lt)) in
        let more = ap (λ l. length (joined l)) here ∙ ap length (joined-more (take k lists) (get_or lists k [])) ∙ length-append (joined (take k lists)) (get_or lists k []) in
        omega (arith, more, full-before k (omega (arith, lt)), are.full k (omega (arith, lt)))

    -- all but the last, and the last
    pub full-length : (k : ℕ) → k + 1 ≡ length lists → length (joined lists) ≡ 1024 * k + length (get_or lists k [])
    full-length k last =
        let lt : k < length lists = omega (arith, last) in
        let rest : drop (k + 1) lists ≡ [] = ap (λ (n : ℕ). drop n lists) {x = k + 1} {y = length lists} last ∙ drop-length lists in
        let whole = joined-at lists k lt ∙ ap (λ l. joined (take k lists) ++ (get_or lists k [] ++ joined l)) rest ∙ ap (λ l. joined (take k lists) ++ l) (append-nil (get_or lists k [])) in
        omega (arith, ap length whole, length-append (joined (take k lists)) (get_or lists k []), full-before k lt)

    few-at : (k : ℕ) → k < length lists → length (get_or lists k []) ≤ 1024
    few-at k lt = all-at (λ (l : List X). length l ≤ 1024) lists k [] lt are.few

    -- there are no more items than there is place for
    pub bounded : length (joined lists) ≤ 1024 * length lists
    bounded = by_last (length lists) refl
      where
        by_last : (n : ℕ) → n ≡ length lists → length (joined lists) ≤ 1024 * length lists
        by_last zero e = omega (arith, ap (λ l. length (joined l)) (nil_from_length lists (sym e)))
        by_last (suc k) e = omega (arith, e, full-length k (omega (arith, e)), few-at k (omega (arith, e)))

    module _ (place : ℕ) (lt : place < length (joined lists)) where
      abbrev pub list_of : ℕ
      list_of = place / 1024

      -- the list of a place is there
      pub list_there : place / 1024 < length lists
      list_there = omega (arith, lt, bounded, div-add-mod place 1024)

      -- and so is the place in it
      pub place_there : place % 1024 < length (get_or lists (place / 1024) [])
      place_there = by_cases (cases_lt (place / 1024 + 1) (length lists))
        where
          by_cases : (place / 1024 + 1 < length lists) ⊎ (length lists ≤ place / 1024 + 1) → place % 1024 < length (get_or lists (place / 1024) [])
          by_cases (inl more) = omega (arith, are.full (place / 1024) more, div-add-mod place 1024)
          by_cases (inr last) = omega (arith, lt, full-length (place / 1024) (omega (arith, last, list_there)), div-add-mod place 1024)

      -- the places before it
      pub before_it : length (joined (take (place / 1024) lists)) + place % 1024 ≡ place
      before_it = omega (arith, full-before (place / 1024) list_there, div-add-mod place 1024)

      -- what stands at the place
      pub item-at : (d : X) → get_or (joined lists) place d ≡ get_or (get_or lists (place / 1024) []) (place % 1024) d
      item-at d =
          ap (λ (n : ℕ). get_or (joined lists) n d) (sym before_it)
          ∙ get_or-flat_map (λ (l : List X). l) lists (place / 1024) (place % 1024) [] d list_there place_there

    module _ (k : ℕ) (list : List X) (lt : k < length lists) (same : length list ≡ length (get_or lists k [])) where
      full-set-at : (j : ℕ) → j + 1 < length lists → ((eqb j k ≡ true) × (j ≡ k)) ⊎ ((eqb j k ≡ false) × (j ≢ k)) → length (get_or (slice_set lists k list) j []) ≡ 1024
      full-set-at j less (inl here) =
          ap length (get_or-set_at lists k j list [] here.1 lt) ∙ same ∙ sym (ap (λ (n : ℕ). length (get_or lists n [])) here.1) ∙ are.full j less
      full-set-at j less (inr other) = ap length (get_or-set_other lists k j list [] other.1) ∙ are.full j less

      -- a list of the same length in its place
      pub full-set : AreFull (slice_set lists k list)
      full-set = record {
        few =
            let P = λ (l : List X). length l ≤ 1024 in
            recursion_from_All P (slice_set lists k list) (All-set P lists k list (omega (arith, same, few-at k lt)) (All-from_recursion P lists are.few));
        full = λ j less. full-set-at j (omega (arith, less, length-set lists k list)) (eqb_tells j k);
      }
