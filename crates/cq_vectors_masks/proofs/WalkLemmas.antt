-- The places of a word's set bits, and the step from the lowest to the next (after the kit's json, proofs/Bits/Hits.antt).
use Rattle.std.proofs.Common.{◌≡◌, ℕ, zero, suc, ◌+◌, ◌-◌, ◌*◌, ◌/◌, ◌%◌, ◌^◌, ◌<◌, ◌≤◌, min, Bool, true, false, cond, ◌==◌, List, [], ◌∷◌, ◌++◌, length, refl, sym, ap, ap₂, ◌∙◌, arith, mod-lt, zero-lt-suc, pow-suc, add-zero, take, set, take-suc-set, append_assoc, append-nil, length-append, length-take}
use Rattle.std.proofs.lemmas.Nat.Bits.{bit_at_lowest, bit_at-suc}
use Rattle.std.specs.Int.{bit_at}
use Rattle.std.specs.List.{range_with_len, filter}
use lib.Bits.{bit_and, and_step, and_self}
use lib.Count.{count_trailing_zeros, under}
use Rattle.cq_vectors_masks.specs.Walk.{set_bits}
use Rattle.cq_vectors_masks.specs.Plane.{is_set}
use Rattle.std.proofs.lemmas.List.Elements.{filter-append}
use lib.ListN.{get_or}

-- n places after m places
pub range_with_len-add : (a m n : ℕ) → range_with_len a (m + n) ≡ range_with_len a m ++ range_with_len (a + m) n
range_with_len-add a zero n =
    let start : a ≡ a + 0 = omega arith in
    let size : 0 + n ≡ n = omega arith in
    ap₂ range_with_len start size
range_with_len-add a (suc m) n =
    let size : suc m + n ≡ suc (m + n) = omega arith in
    let start : a + 1 + m ≡ a + suc m = omega arith in
    ap (range_with_len a) size ∙ ap (λ l. a ∷ l) (range_with_len-add (a + 1) m n ∙ ap (λ j. range_with_len (a + 1) m ++ range_with_len j n) start)

pub bit_cases : (P : ℕ → Type 0) → P 0 → P 1 → (x : ℕ) → x < 2 → P x
bit_cases P p q zero h = p
bit_cases P p q (suc zero) h = q
bit_cases P p q (suc (suc r)) h = absurd (omega arith)

one_more : (t : Bool) (b k : ℕ) (l : List ℕ) → length l ≤ k → length (cond t (b ∷ l) l) ≤ suc k
one_more true b k l h = omega arith
one_more false b k l h = omega arith

pub length-set_bits : (k b x : ℕ) → length (set_bits k b x) ≤ k
unfolding set_bits
length-set_bits zero b x = omega arith
length-set_bits (suc k) b x = one_more (x % 2 == 1) b k _ (length-set_bits k (b + 1) (x / 2))

pub set_bits-zero : (k b : ℕ) → set_bits k b 0 ≡ []
unfolding set_bits
set_bits-zero zero b = refl
set_bits-zero (suc k) b = set_bits-zero k (b + 1)

abbrev turn : ℕ → ℕ → ℕ → ℕ → List ℕ
turn k b r t = cond (r == 1) (b ∷ set_bits k (b + 1) t) (set_bits k (b + 1) t)

abbrev Goal : ℕ → ℕ → ℕ → Type 0
Goal k b x = turn k b (x % 2) (x / 2) ≡ (b + under (x % 2) (count_trailing_zeros k (x / 2))) ∷ turn k b (bit_and x (x - 1) % 2) (bit_and x (x - 1) / 2)

pub lowest : (k b x : ℕ) → 0 < x → x < 2 ^ k → set_bits k b x ≡ (b + count_trailing_zeros k x) ∷ set_bits k b (bit_and x (x - 1))
unfolding set_bits count_trailing_zeros
lowest zero b x pos h = let no : ⊥ = omega arith in absurd no
lowest (suc k) b x pos h = bit_cases (λ r. x % 2 ≡ r → Goal k b x) (even (λ p. lowest k (b + 1) (x / 2) p (omega (arith, pow-suc 2 k)))) odd (x % 2) (mod-lt x (zero-lt-suc 1)) refl
  where
    odd : x % 2 ≡ 1 → Goal k b x
    odd e =
        let y = bit_and x (x - 1) in
        let half : (x - 1) / 2 ≡ x / 2 = omega arith in
        let low : min (x % 2) ((x - 1) % 2) ≡ 0 = omega arith in
        let is : y ≡ x / 2 * 2 + 0 = and_step x (x - 1) ∙ ap₂ (λ u v. u * 2 + v) (ap (bit_and (x / 2)) half ∙ and_self (x / 2)) low in
        let p : y % 2 ≡ 0 = omega arith in
        let q : y / 2 ≡ x / 2 = omega arith in
        ap (λ r. turn k b r (x / 2)) e ∙ ap₂ (λ u v. u ∷ v) (sym (ap (λ r. b + under r (count_trailing_zeros k (x / 2))) e ∙ add-zero b)) (sym (ap₂ (turn k b) p q))

    even : (0 < x / 2 → set_bits k (b + 1) (x / 2) ≡ (b + 1 + count_trailing_zeros k (x / 2)) ∷ set_bits k (b + 1) (bit_and (x / 2) (x / 2 - 1))) → x % 2 ≡ 0 → Goal k b x
    even below e =
        let y = bit_and x (x - 1) in
        let half : (x - 1) / 2 ≡ x / 2 - 1 = omega arith in
        let low : min (x % 2) ((x - 1) % 2) ≡ 0 = omega arith in
        let z = bit_and (x / 2) (x / 2 - 1) in
        let is : y ≡ z * 2 + 0 = and_step x (x - 1) ∙ ap₂ (λ u v. u * 2 + v) (ap (bit_and (x / 2)) half) low in
        let p : y % 2 ≡ 0 = omega arith in
        let q : y / 2 ≡ z = omega arith in
        let t = count_trailing_zeros k (x / 2) in
        let place : b + 1 + t ≡ b + suc t = omega arith in
        ap (λ r. turn k b r (x / 2)) e ∙ below (omega arith)
        ∙ ap₂ (λ u v. u ∷ v) (place ∙ sym (ap (λ r. b + under r t) e)) (sym (ap₂ (turn k b) p q))

-- they are the places that a test keeps
pub set_bits-filter : (p : ℕ → Bool) (k b x : ℕ) → ((i : ℕ) → i < k → (bit_at x i == 1) ≡ p (b + i)) → set_bits k b x ≡ filter p (range_with_len b k)
unfolding set_bits
set_bits-filter p zero b x h = refl
set_bits-filter p (suc k) b x h =
    let first : (x % 2 == 1) ≡ p b = ap (λ n. n == 1) (sym (bit_at_lowest x)) ∙ h 0 (omega arith) ∙ ap p (add-zero b) in
    let rest = set_bits-filter p k (b + 1) (x / 2) (λ i lt. ap (λ n. n == 1) (sym (bit_at-suc x i)) ∙ h (suc i) (omega arith) ∙ ap p (omega arith)) in
    ap₂ (λ t l. cond t (b ∷ l) l) first rest

module _ (b start word : ℕ) (to first : List ℕ) (n rest : ℕ) (room : start ≤ length first) (within : n ≤ length to) (so_far : take n to ++ set_bits 64 b rest ≡ take start first ++ set_bits 64 b word) where
  -- while a bit is left, there is room for its place
  pub room_left : 0 < rest → rest < 2 ^ 64 → n < start + 64
  room_left some fits =
      omega (arith, ap length so_far, length-append (take n to) (set_bits 64 b rest), length-append (take start first) (set_bits 64 b word), length-take n to, length-take start first, length-set_bits 64 b word, ap length (lowest 64 b rest some fits))

  -- the lowest place goes from what is left to what is written
  pub walk_step : 0 < rest → rest < 2 ^ 64 → n < length to → take (n + 1) (set to n (b + count_trailing_zeros 64 rest)) ++ set_bits 64 b (bit_and rest (rest - 1)) ≡ take start first ++ set_bits 64 b word
  walk_step some fits lt =
      let place = b + count_trailing_zeros 64 rest in
      let left = set_bits 64 b (bit_and rest (rest - 1)) in
      let next : n + 1 ≡ suc n = omega arith in
      ap (λ m. take m (set to n place) ++ left) next
      ∙ ap (λ l. l ++ left) (take-suc-set to n place lt)
      ∙ append_assoc (take n to) (place ∷ []) left
      ∙ ap (λ l. take n to ++ l) (sym (lowest 64 b rest some fits))
      ∙ so_far

  pub walk_end : rest ≡ 0 → take n to ≡ take start first ++ set_bits 64 b word
  walk_end none = sym (append-nil (take n to)) ∙ ap (λ l. take n to ++ l) (sym (ap (set_bits 64 b) none ∙ set_bits-zero 64 b)) ∙ so_far

-- the places of one word more
pub words_step : (ws : List ℕ) (k m : ℕ) → m ≡ 64 * (k + 1) → filter (is_set ws) (range_with_len 0 (64 * k)) ++ set_bits 64 (64 * k) (get_or ws k 0) ≡ filter (is_set ws) (range_with_len 0 m)
unfolding is_set
words_step ws k m e =
    let from : 0 + 64 * k ≡ 64 * k = omega arith in
    let size : m ≡ 64 * k + 64 = omega arith in
    ap (λ l. filter (is_set ws) (range_with_len 0 (64 * k)) ++ l) (set_bits-filter (is_set ws) 64 (64 * k) (get_or ws k 0) (λ i lt.
    let word : k ≡ (64 * k + i) / 64 = omega arith in
    let bit : i ≡ (64 * k + i) % 64 = omega arith in
    ap₂ (λ w j. bit_at (get_or ws w 0) j == 1) word bit))
    ∙ sym (filter-append (is_set ws) (range_with_len 0 (64 * k)) (range_with_len (64 * k) 64))
    ∙ sym (ap (λ l. filter (is_set ws) l) (ap (range_with_len 0) size ∙ range_with_len-add 0 (64 * k) 64 ∙ ap (λ a. range_with_len 0 (64 * k) ++ range_with_len a 64) from))
