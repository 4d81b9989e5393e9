-- Flags in pieces of one size.
use Rattle.std.proofs.Common.{◌≡◌, ℕ, zero, suc, ◌+◌, ◌*◌, ◌/◌, ◌%◌, ◌<◌, ◌≤◌, ◌⊎◌, inl, inr, Bool, false, List, [], ◌∷◌, ◌++◌, length, get_or, map, take, drop, refl, sym, subst, ap, ap₂, ◌∙◌, arith}
use Rattle.std.proofs.lemmas.Bool.{cases_lt}
use Rattle.std.proofs.lemmas.List.{append-nil, drop-drop, drop-map, drop_all, get_or-drop, get_or-take, get_or_past, length-drop, length-map, take-append-drop, take-map, take_all}
use Rattle.cq_encodings_plain.specs.Nulls.{ArePieces, joined}

module _ (size : ℕ) where
  -- pieces that are those of flags, and as many as it takes, are the flags
  joined_by : (pieces : List (List Bool)) (flags : List Bool) → ((k : ℕ) → get_or pieces k [] ≡ take size (drop (size * k) flags)) → length flags ≤ size * length pieces → joined pieces ≡ flags
  joined_by [] [] are few = refl
  joined_by [] (flag ∷ flags) are few = absurd (omega arith)
  joined_by (piece ∷ pieces) flags are few =
      ap₂ (λ (xs ys : List Bool). xs ++ ys)
      (are 0 ∙ ap (λ (n : ℕ). take size (drop n flags)) {x = size * 0} {y = 0} (omega arith))
      (joined_by pieces (drop size flags)
      (λ k. are (suc k) ∙ ap (take size) (ap (λ (n : ℕ). drop n flags) {x = size * suc k} {y = size + size * k} (omega arith) ∙ sym (drop-drop (size * k) size flags)))
      (omega (arith, few, length-drop size flags)))
      ∙ take-append-drop size flags

pub joined_is : (pieces : List (List Bool)) (flags : List Bool) → ArePieces pieces flags → length flags ≤ 1024 * length pieces → joined pieces ≡ flags
joined_is = joined_by 1024

-- the flag of a place stands in its piece
pub flag_at : (pieces : List (List Bool)) (flags piece : List Bool) (place : ℕ) → ArePieces pieces flags → get_or pieces (place / 1024) [] ≡ piece → get_or piece (place % 1024) false ≡ get_or flags place false
flag_at pieces flags piece place are is =
    let k = place / 1024 in
    ap (λ (xs : List Bool). get_or xs (place % 1024) false) (sym is ∙ are k)
    ∙ get_or-take 1024 (drop (1024 * k) flags) (place % 1024) false (omega arith)
    ∙ get_or-drop (1024 * k) flags (place % 1024) false
    ∙ ap (λ (n : ℕ). get_or flags n false) {x = 1024 * k + place % 1024} {y = place} (omega arith)

module _ {A : Type 0} (flag : A → Bool) (values : List A) (pieces : List (List Bool)) where
  -- pieces that were made one by one are those of all flags
  pub are_pieces : (made : (k : ℕ) → k < length pieces → get_or pieces k [] ≡ map flag (take 1024 (drop (1024 * k) values))) → length values ≤ 1024 * length pieces → ArePieces pieces (map flag values)
  are_pieces made few k = by_length (cases_lt k (length pieces))
    where
      by_length : (k < length pieces) ⊎ (length pieces ≤ k) → get_or pieces k [] ≡ take 1024 (drop (1024 * k) (map flag values))
      by_length (inl lt) = made k lt ∙ sym (take-map flag 1024 (drop (1024 * k) values)) ∙ ap (take 1024) (sym (drop-map flag (1024 * k) values))
      by_length (inr le) =
          get_or_past pieces k [] le
          ∙ sym (ap (take 1024) (drop_all (1024 * k) (map flag values) (omega (arith, le, few, length-map values flag))))

  -- and so all flags, one piece behind the other
  pub all_joined : (made : (k : ℕ) → k < length pieces → get_or pieces k [] ≡ map flag (take 1024 (drop (1024 * k) values))) → length values ≤ 1024 * length pieces → joined pieces ≡ map flag values
  all_joined made few = joined_is pieces (map flag values) (are_pieces made few) (omega (arith, few, length-map values flag))

  pub pieces_of_joined : (made : (k : ℕ) → k < length pieces → get_or pieces k [] ≡ map flag (take 1024 (drop (1024 * k) values))) → length values ≤ 1024 * length pieces → ArePieces pieces (joined pieces)
  pieces_of_joined made few = subst (ArePieces pieces) (sym (all_joined made few)) (are_pieces made few)

-- few flags are one piece
pub one_piece : (flags : List Bool) → length flags ≤ 1024 → ArePieces (flags ∷ []) (joined (flags ∷ []))
one_piece flags few k = by_place k
  where
    all : joined (flags ∷ []) ≡ flags
    all = append-nil flags

    by_place : (j : ℕ) → get_or (flags ∷ []) j [] ≡ take 1024 (drop (1024 * j) (joined (flags ∷ [])))
    by_place zero = sym (ap (take 1024) all ∙ take_all 1024 flags few)
    by_place (suc j) = sym (ap (take 1024) (drop_all (1024 * suc j) (joined (flags ∷ [])) (omega (arith, few, ap length all))))
