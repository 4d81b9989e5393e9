-- Words that are filled from lists, 64 places at a time.
use Rattle.std.proofs.Common.{◌≡◌, ℕ, ◌+◌, ◌*◌, ◌/◌, ◌%◌, ◌^◌, ◌<◌, ◌≤◌, ◌==◌, Bool, true, false, cond, ◌&&◌, List, [], ◌∷◌, ◌++◌, map, length, get_or, refl, sym, ap, ap₂, ◌∙◌, ◌⊎◌, inl, inr, arith, pow-suc, mul_assoc, min, ◌-◌}
use Rattle.std.specs.Int.{bit_at}
use Rattle.std.specs.Int.RustNames.{bit_or}
use Rattle.std.specs.Int.Bits.{or_shifted_r}
use lib.Lanes.{mask_l}
use lib.ListN.{get_or-eq_default}
use Rattle.std.proofs.lemmas.Bool.{cases_lt, lt-ltb, le-ltb}
use Rattle.std.specs.List.{range_with_len}
use Rattle.std.proofs.lemmas.List.FromFn.{get_or-map-range_with_len, length-map-range_with_len, map-range_with_len_more}
use lib.Dec.{ltb}
use Rattle.std.proofs.lemmas.Simd.{bit_mask_l, mask_l-lt}
use Rattle.cq_vectors_masks.specs.Plane.{is_set, Packs}
use Rattle.cq_vectors_masks.proofs.PlaneLemmas.{is_set_past, same_order}

-- flags behind flags go above them
mask_l-append : (ms ns : List Bool) → mask_l (ms ++ ns) ≡ mask_l ns * 2 ^ length ms + mask_l ms
mask_l-append [] ns = omega arith
mask_l-append (m ∷ ms) ns =
    let n = mask_l ns in
    let p = 2 ^ length ms in
    omega (arith, mask_l-append ms ns, ap (λ (q : ℕ). n * q) (pow-suc 2 (length ms)), mul_assoc n p 2)

pub or-mask_l : (ms ns : List Bool) (k : ℕ) → length ms ≡ k → bit_or (mask_l ms) (mask_l ns * 2 ^ k) ≡ mask_l (ms ++ ns)
or-mask_l ms ns k e =
    ap (λ j. bit_or (mask_l ms) (mask_l ns * 2 ^ j)) (sym e) ∙ or_shifted_r (mask_l ns) (length ms) (mask_l ms) (mask_l-lt ms) ∙ sym (mask_l-append ms ns)

is_one : (b : Bool) → (cond b 1 0 == 1) ≡ b
is_one true = refl
is_one false = refl

module _ (h : ℕ → Bool) where
  -- a bit of the answers of n places
  bit_answered : (from n j : ℕ) → (bit_at (mask_l (map h (range_with_len from n))) j == 1) ≡ ltb j n && h (from + j)
  bit_answered from n j = ap (λ b. b == 1) (bit_mask_l (map h (range_with_len from n)) j) ∙ is_one _ ∙ by_order (cases_lt j n)
    where
      by_order : (j < n) ⊎ (n ≤ j) → get_or (map h (range_with_len from n)) j false ≡ ltb j n && h (from + j)
      by_order (inl lt) = get_or-map-range_with_len h from n j (from + j) false lt refl ∙ sym (ap (λ t. t && h (from + j)) (lt-ltb j n lt))
      by_order (inr le) = get_or-eq_default (map h (range_with_len from n)) false (omega (arith, length-map-range_with_len h from n)) ∙ sym (ap (λ t. t && h (from + j)) (le-ltb j n le))

  -- words of answers hold the answers
  pub answers_set : (len : ℕ) (ws : List ℕ) → ((k : ℕ) → k < 16 → get_or ws k 0 ≡ mask_l (map h (range_with_len (64 * k) (min (len - 64 * k) 64)))) → (i : ℕ) → i < 1024 → is_set ws i ≡ ltb i len && h i
  unfolding is_set
  answers_set len ws made i lt =
      let k = i / 64 in
      let j = i % 64 in
      ap (λ w. bit_at w j == 1) (made k (omega arith)) ∙ bit_answered (64 * k) (min (len - 64 * k) 64) j
      ∙ ap₂ (λ t p. t && h p) (same_order j (min (len - 64 * k) 64) i len (λ lt. omega arith) (λ le. omega arith)) (omega arith)

  -- and the flags are those answers
  pub Packs-answers : (len : ℕ) (ws : List ℕ) → len ≤ 1024 → length ws ≡ 16 → ((i : ℕ) → i < 1024 → is_set ws i ≡ ltb i len && h i) → Packs ws (map h (range_with_len 0 len))
  Packs-answers len ws few long made i = by_order (cases_lt i len)
    where
      by_order : (i < len) ⊎ (len ≤ i) → is_set ws i ≡ get_or (map h (range_with_len 0 len)) i false
      by_order (inl lt) = made i (omega arith) ∙ ap (λ t. t && h i) (lt-ltb i len lt) ∙ sym (get_or-map-range_with_len h 0 len i i false lt (omega arith))
      by_order (inr le) = clear (cases_lt i 1024) ∙ sym (get_or-eq_default (map h (range_with_len 0 len)) false (omega (arith, length-map-range_with_len h 0 len)))
        where
          clear : (i < 1024) ⊎ (1024 ≤ i) → is_set ws i ≡ false
          clear (inl lt) = made i lt ∙ ap (λ t. t && h i) (le-ltb i len le)
          clear (inr past) = is_set_past ws i (omega arith) past

  -- one answer more
  pub answer_more : (from i w : ℕ) → w ≡ mask_l (map h (range_with_len from i)) → bit_or w (mask_l (h (from + i) ∷ []) * 2 ^ i) ≡ mask_l (map h (range_with_len from (i + 1)))
  answer_more from i w e =
      ap (λ v. bit_or v (mask_l (h (from + i) ∷ []) * 2 ^ i)) e
      ∙ or-mask_l (map h (range_with_len from i)) (h (from + i) ∷ []) i (length-map-range_with_len h from i)
      ∙ ap mask_l (sym (map-range_with_len_more h from i (from + i) refl))
