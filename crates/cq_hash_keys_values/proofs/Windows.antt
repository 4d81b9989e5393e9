-- The codes of a window that begins lower.
use Rattle.std.proofs.Common.{◌≡◌, ℕ, ◌+◌, ◌<◌, ℤ, pos, ◌-ℤ◌, int_lt, true, List, ◌++◌, replicate, get_or, refl, ◌∙◌, ap, arith}
use Rattle.std.specs.Prelude.{unsigned_abs}
use Rattle.std.proofs.lemmas.Grind.{common_steps}
use Rattle.std.proofs.lemmas.Int.{ints}
use Rattle.cq_model_bags.proofs.Totals.{by_test}
use Rattle.cq_hash_keys_values.specs.Codes.{code_in}
use Rattle.cq_hash_keys_values.specs.Window.{place_above}

module _ (more : ℕ) (codes : List ℕ) where
  before : (place : ℕ) → place < more → get_or (replicate more 0 ++ codes) place 0 ≡ 0
  before place lt = grind (arith, common_steps)

  behind : (place : ℕ) → get_or (replicate more 0 ++ codes) (more + place) 0 ≡ get_or codes place 0
  behind place = grind (arith, common_steps)

  -- the codes behind some more places, from a least number that is as much less
  pub lower : (least n : ℤ) → code_in (replicate more 0 ++ codes) (place_above (least -ℤ pos more) n) ≡ code_in codes (place_above least n)
  lower least n = by_test (int_lt n (least -ℤ pos more))
      (λ s.
      let t : int_lt n least ≡ true = by_test (int_lt n least) (λ k. k) (λ k. absurd (omega (arith, ints))) in
      rw (s, t) refl)
      (λ s. by_test (int_lt n least)
      (λ t. rw (s, t) (before (unsigned_abs (n -ℤ (least -ℤ pos more))) (omega (arith, ints))))
      (λ t.
      let e : unsigned_abs (n -ℤ (least -ℤ pos more)) ≡ more + unsigned_abs (n -ℤ least) = omega (arith, ints) in
      rw (s, t) (ap (λ place. get_or (replicate more 0 ++ codes) place 0) e ∙ behind (unsigned_abs (n -ℤ least)))))
