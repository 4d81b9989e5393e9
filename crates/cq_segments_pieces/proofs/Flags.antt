-- One flag more, and the first ones gone.
use Rattle.std.proofs.Common.{◌≡◌, ◌≢◌, ◌⊎◌, inl, inr, ℕ, zero, suc, ◌+◌, ◌-◌, ◌<◌, ◌≤◌, Bool, true, false, List, drop, length, map, get_or, refl, sym, ap, ◌∙◌, arith}
use Rattle.std.specs.List.{range_with_len}
use Rattle.std.specs.Prelude.{◌==◌, ◌||◌, slice_set}
use Rattle.std.specs.Simd.Lanes.{mask_l, zip2}
use Rattle.std.proofs.lemmas.Bool.{ne_eqb}
use Rattle.std.proofs.lemmas.Bool.Decides.{eqb_tells}
use Rattle.std.proofs.lemmas.List.{ext_get_or, get_or-drop, get_or-set_other, length-drop, length-set}
use Rattle.std.proofs.lemmas.Grind.{get_or-set_at}
use Rattle.std.proofs.Math.Dec.{eqb}
use Rattle.std.proofs.lemmas.List.FromFn.{get_or-map-range_with_len, length-map-range_with_len}
use Rattle.std.proofs.lemmas.Simd.{get_or-zip2, length-zip2}
use Rattle.std.proofs.Math.Bool.{or-false, or-true}
use Rattle.cq_vectors_masks.specs.Plane.{either}

-- whether a place is this one
abbrev pub is_place : ℕ → ℕ → Bool
is_place place = λ k. k == place

-- a word without the place has no bit
pub none_here : (place from n : ℕ) → ((k : ℕ) → from ≤ k → k < from + n → k ≡ place → ⊥) → mask_l (map (is_place place) (range_with_len from n)) ≡ 0
none_here place from zero other = refl
none_here place from (suc n) other =
    rw (ne_eqb from place (other from (omega arith) (omega arith)), none_here place (from + 1) n (λ k low high. other k (omega (arith, low)) (omega (arith, high)))) refl

module _ (flags : List Bool) (place : ℕ) (lt : place < length flags) where
  abbrev pub one : List Bool
  one = map (is_place place) (range_with_len 0 (length flags))

  length-one : length one ≡ length flags
  length-one = length-map-range_with_len (is_place place) 0 (length flags)

  -- at each place
  one_more : (k : ℕ) → k < length flags → ((eqb k place ≡ true) × (k ≡ place)) ⊎ ((eqb k place ≡ false) × (k ≢ place)) → either (get_or flags k false) (is_place place k) ≡ get_or (slice_set flags place true) k false
  one_more k less (inl here) = ap (λ b. get_or flags k false || b) here.0 ∙ or-true (get_or flags k false) ∙ sym (get_or-set_at flags place k true false here.1 lt)
  one_more k less (inr other) = ap (λ b. get_or flags k false || b) other.0 ∙ or-false (get_or flags k false) ∙ sym (get_or-set_other flags place k true false other.1)

  read : (k : ℕ) → k < length flags → get_or (zip2 either flags one) k false ≡ either (get_or flags k false) (is_place place k)
  read k less =
      get_or-zip2 either flags one k false false false less (omega (arith, less, length-one))
      ∙ ap (λ b. get_or flags k false || b) (get_or-map-range_with_len (is_place place) 0 (length flags) k k false less (omega arith))

  -- the flags with that of the place are those with one set
  pub with_place : zip2 either flags one ≡ slice_set flags place true
  with_place =
      let count = length-zip2 either flags one (sym length-one) in
      ext_get_or false (zip2 either flags one) (slice_set flags place true) (count ∙ sym (length-set flags place true))
      (λ k below. let less : k < length flags = omega (arith, below, count) in read k less ∙ one_more k less (eqb_tells k place))

-- the flags so much further on are those behind the first
pub flags-behind : (flags : List Bool) (from : ℕ) → map (λ place. get_or flags (from + place) false) (range_with_len 0 (length flags - from)) ≡ drop from flags
flags-behind flags from =
    let read : ℕ → Bool = λ place. get_or flags (from + place) false in
    let left = length flags - from in
    let count = length-map-range_with_len read 0 left in
    ext_get_or false (map read (range_with_len 0 left)) (drop from flags) (count ∙ sym (length-drop from flags))
    (λ k below. get_or-map-range_with_len read 0 left k k false (omega (arith, below, count)) (omega arith) ∙ sym (get_or-drop from flags k false))
