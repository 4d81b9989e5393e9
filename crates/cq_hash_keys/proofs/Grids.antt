-- Cells of a grid: two pairs have one only where they are one.
use Rattle.std.proofs.Common.{◌≡◌, ℕ, ◌+◌, ◌-◌, ◌*◌, ◌/◌, ◌^◌, ◌<◌, Bool, true, false, ◌&&◌, nat_eq, nat_lt, List, [], set, length, Option, Some, None, refl, sym, subst, ◌∙◌, ap, arith, true≢false}
use Rattle.std.specs.List.{IsDistinct}
use Rattle.std.proofs.lemmas.Bool.{eqb-true}
use Rattle.std.proofs.lemmas.Grind.{common_steps}
use Rattle.std.proofs.lemmas.List.{get_or-set_same, get_or-set_other}
use Rattle.std.proofs.lemmas.Nat.{div-mul-add}
use Rattle.cq_model_bags.proofs.Totals.{by_test}
use Rattle.cq_hash_keys_values.specs.Codes.{code_in, code_or}
use Rattle.cq_hash_keys.specs.declared.grid.Grid.{Grid}
use Rattle.cq_hash_keys.specs.Grid.{cell_of, pair_in, same_pair}
use Rattle.cq_hash_keys.specs.Pairs.{ArePairs}

both : (a b : Bool) → a && b ≡ true → (a ≡ true) × (b ≡ true)
both true true e = (refl, refl)
both true false e = absurd (true≢false (sym e))
both false b e = absurd (true≢false (sym e))

itself : (n : ℕ) → nat_eq n n ≡ true
itself n = by_test (nat_eq n n) (λ s. s) (λ s. absurd (grind (arith, common_steps)))

pub pair-same : (p q : ℕ × ℕ) → same_pair p q ≡ true → p ≡ q
pair-same p q s =
    let parts = both (nat_eq p.0 q.0) (nat_eq p.1 q.1) s in
    λ i. (eqb-true p.0 q.0 parts.0 i, eqb-true p.1 q.1 parts.1 i)

pub pair-itself : (p : ℕ × ℕ) → same_pair p p ≡ true
pair-itself p = rw (itself p.0, itself p.1) refl

module _ (stride : ℕ) where
  -- the parts of a pair that has a cell
  parts-of : (p : ℕ × ℕ) (cell : ℕ) → cell_of stride p ≡ Some cell → (nat_lt p.1 stride ≡ true) × (p.0 * stride + p.1 ≡ cell)
  parts-of p cell is = by_test (nat_lt p.0 (2 ^ 22) && nat_lt p.1 stride)
      (λ s. let e : Some (p.0 * stride + p.1) ≡ Some cell = rw s at is in ((both (nat_lt p.0 (2 ^ 22)) (nat_lt p.1 stride) s).1, cc e))
      (λ s. let e : None ≡ Some cell = rw s at is in absurd (cc e))

  pub one-cell : (p q : ℕ × ℕ) (cell : ℕ) → cell_of stride p ≡ Some cell → cell_of stride q ≡ Some cell → p ≡ q
  one-cell p q cell of-p of-q =
      let here = parts-of p cell of-p in
      let there = parts-of q cell of-q in
      let below : p.1 < stride = grind (arith, common_steps) in
      let under : q.1 < stride = grind (arith, common_steps) in
      let firsts : p.0 ≡ q.0 =
      sym (div-mul-add p.0 stride p.1 below) ∙ ap (λ (n : ℕ). n / stride) (here.1 ∙ sym there.1) ∙ div-mul-add q.0 stride q.1 under in
      let lines : p.0 * stride ≡ q.0 * stride = ap (λ (n : ℕ). n * stride) firsts in
      let seconds : p.1 ≡ q.1 = omega (arith, here.1, there.1, lines) in
      λ i. (firsts i, seconds i)

  -- a code that is written is read for its own pair, and no other is changed
  pub written : (codes : List ℕ) (cell code : ℕ) (o : Option ℕ) → o ≡ Some cell → cell < length codes → code_in (set codes cell code) o ≡ code
  written codes cell code o is lt = ap (code_in (set codes cell code)) is ∙ get_or-set_same codes cell code 0 lt

  pub unwritten : (codes : List ℕ) (cell code : ℕ) (o : Option ℕ) → (o ≡ Some cell → ⊥) → code_in (set codes cell code) o ≡ code_in codes o
  unwritten codes cell code None apart = refl
  unwritten codes cell code (Some other) apart = get_or-set_other codes cell other code 0 (λ e. apart (ap Some e))

-- where nothing is found there is no code
pub no-code : (code : ℕ) (found : Option ℕ) → code_or code found ≡ None → code ≡ 0
no-code code found none = by_test (nat_eq code 0)
    (λ s. eqb-true code 0 s)
    (λ s. let e : Some (code - 1) ≡ None = rw s at none in absurd (cc e))

-- a code is that of its number
pub coded : (n : ℕ) (found : Option ℕ) → code_or (n + 1) found ≡ Some n
coded n found = by_test (nat_eq (n + 1) 0)
    (λ s. absurd (let e = eqb-true (n + 1) 0 s in omega (arith, e)))
    (λ s. rw s (ap Some (omega arith)))

-- pairs that are apart are told apart
pub told-apart : (p q : ℕ × ℕ) → (q ≡ p → ⊥) → same_pair p q ≡ false
told-apart p q apart = by_test (same_pair p q) (λ s. absurd (apart (sym (pair-same p q s)))) (λ s. s)

-- no pairs are found in a grid that has none
pub no-pairs : (ways : Grid) (met : List (ℕ × ℕ)) → met ≡ [] → ((p : ℕ × ℕ) → pair_in ways p ≡ None) → ArePairs ways met
unfolding IsDistinct
no-pairs ways met empty none = subst (ArePairs ways) (sym empty) (record { once = tt; found = none })
