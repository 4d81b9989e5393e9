-- The rank of a text, digit by digit.
use Rattle.std.proofs.Common.{◌≡◌, ◌<◌, ◌≤◌, ℕ, zero, suc, ◌+◌, ◌*◌, ◌-◌, List, [], ◌∷◌, refl, sym, ◌∙◌, ap, subst, arith, nat_lt, length, drop, slice_get}
use Rattle.std.proofs.lemmas.Bool.{lt-ltb, ltb-true, ltb-false}
use Rattle.std.proofs.Math.Nat.{mul-le-mul_left, add-mul, mul_assoc}
use mir.Val.{bool_byte}
use Rattle.cq_model_bags.proofs.Totals.{by_test}
use Rattle.cq_operators_listing.specs.Ranks.{digit_of, text_rank, texts_of}
use Rattle.cq_operators_listing.proofs.Tellings.{text-small}

-- the digit at a place, with those behind it
digit-first : (n at : ℕ) (t : List ℕ) → digit_of (slice_get t at) ≤ 256
    → text_rank (suc n) (drop at t) ≡ digit_of (slice_get t at) * texts_of n + text_rank n (drop (suc at) t)
digit-first n zero [] h = omega arith
digit-first n (suc at) [] h = omega arith
digit-first n zero (b ∷ t) h = rw (lt-ltb b 256 (omega (arith, h))) refl
digit-first n (suc at) (b ∷ t) h = digit-first n at t h

digit-next : (n at rank d : ℕ) (t : List ℕ) → d ≡ digit_of (slice_get t at) → d ≤ 256
    → (rank * 257 + d) * texts_of n + text_rank n (drop (suc at) t) ≡ rank * texts_of (suc n) + text_rank (suc n) (drop at t)
digit-next n at rank d t e h =
    let first : text_rank (suc n) (drop at t) ≡ d * texts_of n + text_rank n (drop (suc at) t) =
    digit-first n at t (subst (λ (d : ℕ). d ≤ 256) e h) ∙ ap (λ (d : ℕ). d * texts_of n + text_rank n (drop (suc at) t)) (sym e) in
    omega (arith, first, add-mul (rank * 257) d (texts_of n), mul_assoc rank 257 (texts_of n))

-- the digits so far, with those that are left
abbrev pub HasRead : List ℕ → ℕ → ℕ → Type 0
HasRead t at rank = rank * texts_of (7 - at) + text_rank (7 - at) (drop at t) ≡ text_rank 7 t

-- one digit more is read
pub has_read-next : (at rank d : ℕ) (t : List ℕ) → at < 7 → d ≡ digit_of (slice_get t at) → d ≤ 256 → HasRead t at rank → HasRead t (at + 1) (rank * 257 + d)
has_read-next at rank d t h e small r =
    let n : ℕ = 7 - (at + 1) in
    let s : 7 - at ≡ suc n = omega (arith, h) in
    subst (λ (k : ℕ). (rank * 257 + d) * texts_of n + text_rank n (drop k t) ≡ text_rank 7 t) {x = suc at} {y = at + 1} (omega arith)
    (digit-next n at rank d t e small ∙ sym (ap (λ (m : ℕ). rank * texts_of m + text_rank m (drop at t)) s) ∙ r)

some_texts : (n : ℕ) → 2 ≤ texts_of n
some_texts zero = omega arith
some_texts (suc n) = let h = some_texts n in omega (arith, h)

-- what was read has room for a digit more
pub has_read-fits : (at rank : ℕ) (t : List ℕ) → at < 7 → HasRead t at rank → rank * 514 < 148102319063043586
has_read-fits at rank t h r =
    let n : ℕ = 7 - (at + 1) in
    let s : 7 - at ≡ suc n = omega (arith, h) in
    let r2 : rank * texts_of (suc n) + text_rank (suc n) (drop at t) ≡ text_rank 7 t = sym (ap (λ (m : ℕ). rank * texts_of m + text_rank m (drop at t)) s) ∙ r in
    let many : 514 ≤ texts_of (suc n) = let k = some_texts n in omega (arith, k) in
    omega (arith, r2, mul-le-mul_left rank many, text-small 7 t)

-- whether there are more bytes
longer : (t : List ℕ) (at : ℕ) → at < length t → text_rank 0 (drop at t) ≡ 1
longer [] at h = absurd (omega (arith, h))
longer (b ∷ t) zero h = refl
longer (b ∷ t) (suc at) h = longer t at (omega (arith, h))

shorter : (t : List ℕ) (at : ℕ) → length t ≤ at → text_rank 0 (drop at t) ≡ 0
shorter [] zero h = refl
shorter [] (suc at) h = refl
shorter (b ∷ t) zero h = absurd (omega (arith, h))
shorter (b ∷ t) (suc at) h = shorter t at (omega (arith, h))

-- all digits are read
has_read-end : (at rank : ℕ) (t : List ℕ) → at ≡ 7 → HasRead t at rank → rank * 2 + text_rank 0 (drop 7 t) ≡ text_rank 7 t
has_read-end at rank t e r = subst (λ (at : ℕ). HasRead t at rank) e r

pub has_read-all : (at rank last : ℕ) (t : List ℕ) → at ≡ 7 → last ≡ bool_byte (nat_lt 7 (length t)) → HasRead t at rank → rank * 2 + last ≡ text_rank 7 t
has_read-all at rank last t e l r = by_test (nat_lt 7 (length t))
    (λ k. let x : last ≡ 1 = l ∙ ap bool_byte k in omega (arith, x, has_read-end at rank t e r, longer t 7 (ltb-true 7 (length t) k)))
    (λ k. let x : last ≡ 0 = l ∙ ap bool_byte k in let y = ltb-false 7 (length t) k in omega (arith, x, has_read-end at rank t e r, shorter t 7 (omega (arith, y))))

pub has_read-small : (at rank : ℕ) (t : List ℕ) → at ≡ 7 → HasRead t at rank → rank * 2 < 148102319063043586
has_read-small at rank t e r = omega (arith, has_read-end at rank t e r, text-small 7 t)

pub text_rank-small : (rank last : ℕ) (t : List ℕ) → rank * 2 + last ≡ text_rank 7 t → rank * 2 + last < 148102319063043586
text_rank-small rank last t e = omega (arith, e, text-small 7 t)
