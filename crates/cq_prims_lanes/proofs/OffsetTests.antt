-- Tests of offsets, place by place.
use Rattle.std.proofs.Common.{◌≡◌, ℕ, suc, Bool, false, List, [], ◌∷◌, map, length, get_or, refl, sym, ap, ap₂, ◌∙◌, arith}
use Rattle.std.specs.List.{range_with_len}
use lib.Lanes.{zip2}
use Rattle.cq_vectors_masks.specs.TruthMask.{known}
use Rattle.cq_prims_lanes.specs.UpTo.{known_of}
use Rattle.cq_prims_lanes.proofs.Places.{map-all_places}

-- tests of the offsets that agree
pub tests_alike : (t s : ℕ → Bool) (xs : List ℕ) → ((k : ℕ) → t (get_or xs k 0) ≡ s (get_or xs k 0)) → map t xs ≡ map s xs
tests_alike t s [] same = refl
tests_alike t s (x ∷ xs) same = ap₂ (λ b l. b ∷ l) (same 0) (tests_alike t s xs (λ k. same (suc k)))

module _ (xs : List ℕ) (flags : List Bool) (long : length flags ≡ length xs) where
  -- the answers of the places are those of the offsets
  pub by_places : (t s : ℕ → Bool) → ((k : ℕ) → t (get_or xs k 0) ≡ s (get_or xs k 0)) → zip2 known (map (λ i. t (get_or xs i 0)) (range_with_len 0 (length flags))) flags ≡ known_of s xs flags
  by_places t s same = ap (λ (l : List Bool). zip2 known l flags) (map-all_places t 0 xs (length flags) (sym long) ∙ tests_alike t s xs same)

-- a test that no offset passes
pub by_none : (s : ℕ → Bool) (xs : List ℕ) (flags : List Bool) → length flags ≡ length xs → ((k : ℕ) → s (get_or xs k 0) ≡ false) → map (known false) flags ≡ known_of s xs flags
by_none s [] [] long none = refl
by_none s [] (f ∷ flags) long none = absurd (omega arith)
by_none s (x ∷ xs) [] long none = absurd (omega arith)
by_none s (x ∷ xs) (f ∷ flags) long none = ap₂ (λ t l. t ∷ l) (ap (λ (b : Bool). known b f) (sym (none 0))) (by_none s xs flags (omega arith) (λ k. none (suc k)))
