-- Some places of a side in lanes, where it is a column or one number.
use Rattle.std.proofs.Common.{◌≡◌, ℕ, ◌+◌, ◌-◌, ◌<◌, ◌≤◌, List, ℤ, pos, SFits, to_z, of_z, map, length, get_or, replicate, take, drop, subst, sym, ap, ◌∙◌, arith}
use Rattle.std.specs.Int.{Width}
use Rattle.std.proofs.lemmas.Simd.{get_or-replicate, length-replicate}
use lib.Lanes.{chunk}
use Rattle.cq_prims_lanes.proofs.Lanes.{signed_column, signed_splat}

module _ (w : Width) (n from : ℕ) {side now : List ℤ} (is : side ≡ now) (fit : (k : ℕ) → SFits w (get_or side k (pos 0))) where
  -- of a column these places are read
  pub column_lanes : (xs : List ℤ) → side ≡ xs → map (to_z w) (map (of_z w) (chunk 0 n (take (length xs - from) (drop from xs)))) ≡ chunk from n now
  column_lanes xs same =
      signed_column w n xs from (λ k. subst (λ (l : List ℤ). SFits w (get_or l k (pos 0))) same (fit k))
      ∙ ap (λ (l : List ℤ). chunk from n l) (sym same ∙ is)

  -- one number stands in each of them
  pub constant_lanes : (v : ℤ) (len : ℕ) → side ≡ replicate len v → 0 < n → from + n ≤ length now → map (to_z w) (replicate n (of_z w v)) ≡ chunk from n now
  constant_lanes v len same some room =
      let within : from + n ≤ len = omega (arith, ap {B = ℕ} length (sym same ∙ is), length-replicate len v, room) in
      let fits : SFits w v = subst (SFits w) (get_or-replicate len from v (pos 0) (omega (arith, within, some))) (subst (λ (l : List ℤ). SFits w (get_or l from (pos 0))) same (fit from)) in
      signed_splat w n v from len fits within ∙ ap (λ (l : List ℤ). chunk from n l) (sym same ∙ is)
