-- Answers of tests of natural numbers in lanes.
use Rattle.std.proofs.Common.{◌≡◌, ℕ, ◌+◌, ◌-◌, ◌%◌, ◌^◌, ◌<◌, ◌≤◌, Bool, false, List, map, length, get_or, cond, replicate, take, drop, sym, ap, ◌∙◌, arith}
use Rattle.std.specs.Int.{Width}
use mir.Val.{bits, hbits}
use Rattle.std.specs.List.{range_with_len}
use lib.Lanes.{chunk, mask_l, top, zip2}
use lib.Seq.{ext_get_or}
use Rattle.std.proofs.lemmas.List.{get_or-map, length-map}
use Rattle.std.proofs.lemmas.List.FromFn.{length-map-range_with_len, get_or-map-range_with_len}
use Rattle.std.proofs.lemmas.Simd.{bitmask_splat, get_or-chunk, length-chunk}

module _ (w : Width) (t : ℕ → ℕ → Bool) (n : ℕ) (few : n ≤ 64) (xs : List ℕ) (from y : ℕ) (room : from + n ≤ length xs) where
  -- the test of n numbers from a place on is that of each place
  tested : map (λ x. t x y) (chunk from n xs) ≡ map (λ i. t (get_or xs i 0) y) (range_with_len from n)
  tested =
      let long : length (map (λ x. t x y) (chunk from n xs)) ≡ n = length-map (chunk from n xs) (λ x. t x y) ∙ length-chunk from n xs room in
      ext_get_or false _ _ (long ∙ sym (length-map-range_with_len (λ i. t (get_or xs i 0) y) from n)) (λ i lt.
      let within : i < n = omega (arith, long) in
      get_or-map (λ x. t x y) (chunk from n xs) i 0 false (omega (arith, within, length-chunk from n xs room))
      ∙ ap (λ (x : ℕ). t x y) (get_or-chunk from n xs i 0 within)
      ∙ sym (get_or-map-range_with_len (λ i. t (get_or xs i 0) y) from n i (from + i) false within (omega arith)))

  -- the bits of a comparison of n lanes with one number are the answers of its places
  pub offset_answers : mask_l (map (top (hbits w)) (zip2 (λ a b. cond (t a b) (2 ^ bits w - 1) 0) (chunk from n xs) (replicate n y))) % 2 ^ 64 ≡ mask_l (map (λ i. t (get_or xs i 0) y) (range_with_len from n))
  offset_answers = bitmask_splat w t (chunk from n xs) n y (length-chunk from n xs room) few ∙ ap mask_l tested
