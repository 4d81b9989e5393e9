-- Words and the flags that they hold.
use Rattle.std.proofs.Common.{◌≡◌, ℕ, zero, suc, ◌/◌, ◌%◌, ◌^◌, ◌<◌, ◌≤◌, min, max, ◌*◌, ◌-◌, true, ◌*◌, ◌==◌, Bool, false, not, ◌&&◌, ◌||◌, List, [], ◌∷◌, length, get_or, refl, sym, ap, ap₂, subst, ◌∙◌, ◌⊎◌, inl, inr, replicate, arith, w64}
use Rattle.std.specs.Int.{bit_at, bit_not}
use Rattle.std.specs.Int.RustNames.{bit_and, bit_or}
use lib.Lanes.{zip2}
use Rattle.std.proofs.lemmas.List.FromFn.{fill_by_all, length-map-range_with_len}
use Rattle.std.proofs.lemmas.Nat.Bits.{bit_at_and, bit_at_or, bit_at_not, bit_at_ones, shr_and_one, bit_at_ones_above, bit_at-lt, bit_at-zero}
use Rattle.std.proofs.lemmas.Bool.{cases_lt, lt-ltb, le-ltb}
use Rattle.std.proofs.lemmas.Simd.{length-zip2, get_or-zip2}
use Rattle.std.proofs.lemmas.Nat.{or_lt}
use lib.Dec.{ltb}
use lib.ListN.{get_or-eq_default}
use Rattle.cq_vectors_masks.specs.Plane.{is_set, flags, Packs, Makes, MakesBelow, neither, both, either, and_not}

pub length-flags : (ws : List ℕ) (n : ℕ) → length (flags ws n) ≡ n
length-flags ws n = length-map-range_with_len (is_set ws) 0 n

pub flags_packed : (ws : List ℕ) (bs : List Bool) (n : ℕ) → length bs ≡ n → Packs ws bs → flags ws n ≡ bs
flags_packed ws bs n long h = sym (fill_by_all (is_set ws) bs n false long (λ k lt. sym (h k)))

pub Packs-flags : (ws : List ℕ) (bs : List Bool) (n : ℕ) → length bs ≡ n → Packs ws bs → Packs ws (flags ws n)
Packs-flags ws bs n long h = subst (Packs ws) (sym (flags_packed ws bs n long h)) h

-- a place of two lists of one length, also past their end
get_or-zip2_past : {X Y Z : Type 0} (f : X → Y → Z) (c : X) (d : Y) (e : Z) → f c d ≡ e → (xs : List X) (ys : List Y) → length xs ≡ length ys → (i : ℕ) → get_or (zip2 f xs ys) i e ≡ f (get_or xs i c) (get_or ys i d)
get_or-zip2_past f c d e is [] [] long i = sym is
get_or-zip2_past f c d e is [] (y ∷ ys) long i = absurd (omega arith)
get_or-zip2_past f c d e is (x ∷ xs) [] long i = absurd (omega arith)
get_or-zip2_past f c d e is (x ∷ xs) (y ∷ ys) long zero = refl
get_or-zip2_past f c d e is (x ∷ xs) (y ∷ ys) long (suc i) = get_or-zip2_past f c d e is xs ys (omega arith) i

-- what a word operation does to a bit is what f does to a flag
abbrev pub Does : (ℕ → ℕ → ℕ) → (Bool → Bool → Bool) → Type 0
Does make f = (a b : ℕ) → b < 2 ^ 64 → (i : ℕ) → i < 64 → (bit_at (make a b) i == 1) ≡ f (bit_at a i == 1) (bit_at b i == 1)

bits_and : (a b : ℕ) → a < 2 → b < 2 → (min a b == 1) ≡ ((a == 1) && (b == 1))
bits_and zero zero p q = refl
bits_and zero (suc zero) p q = refl
bits_and (suc zero) zero p q = refl
bits_and (suc zero) (suc zero) p q = refl
bits_and (suc (suc a)) b p q = absurd (omega arith)
bits_and zero (suc (suc b)) p q = absurd (omega arith)
bits_and (suc zero) (suc (suc b)) p q = absurd (omega arith)

bits_or : (a b : ℕ) → a < 2 → b < 2 → (max a b == 1) ≡ ((a == 1) || (b == 1))
bits_or zero zero p q = refl
bits_or zero (suc zero) p q = refl
bits_or (suc zero) zero p q = refl
bits_or (suc zero) (suc zero) p q = refl
bits_or (suc (suc a)) b p q = absurd (omega arith)
bits_or zero (suc (suc b)) p q = absurd (omega arith)
bits_or (suc zero) (suc (suc b)) p q = absurd (omega arith)

bits_not : (b : ℕ) → b < 2 → (1 - b == 1) ≡ not (b == 1)
bits_not zero q = refl
bits_not (suc zero) q = refl
bits_not (suc (suc b)) q = absurd (omega arith)

pub Does-and : Does bit_and both
Does-and a b fits i lt = ap (λ n. n == 1) (bit_at_and a b i) ∙ bits_and (bit_at a i) (bit_at b i) (bit_at-lt a i) (bit_at-lt b i)

pub Does-or : Does bit_or either
Does-or a b fits i lt = ap (λ n. n == 1) (bit_at_or a b i) ∙ bits_or (bit_at a i) (bit_at b i) (bit_at-lt a i) (bit_at-lt b i)

pub Does-and_not : Does (λ x y. bit_and x (bit_not w64 y)) and_not
Does-and_not a b fits i lt =
    Does-and a (bit_not w64 b) (omega arith) i lt ∙ ap (λ t. (bit_at a i == 1) && t) (ap (λ n. n == 1) (bit_at_not w64 b i fits lt) ∙ bits_not (bit_at b i) (bit_at-lt b i))

-- words hold no flag past the sixteenth
pub is_set_past : (ws : List ℕ) (i : ℕ) → length ws ≤ 16 → 1024 ≤ i → is_set ws i ≡ false
unfolding is_set
is_set_past ws i few past = ap (λ n. bit_at n (i % 64) == 1) (get_or-eq_default ws 0 (omega arith)) ∙ ap (λ n. n == 1) (bit_at-zero (i % 64))

-- words made of words make the flags of those flags
pub Makes-words : (make : ℕ → ℕ → ℕ) (f : Bool → Bool → Bool) → Does make f → (us vs ws : List ℕ) → ((k : ℕ) → k < 16 → (get_or vs k 0 < 2 ^ 64) × (get_or ws k 0 ≡ make (get_or us k 0) (get_or vs k 0))) → Makes f us vs ws
unfolding is_set
Makes-words make f does us vs ws made i lt =
    ap (λ n. bit_at n (i % 64) == 1) (made (i / 64) (omega arith)).1 ∙ does (get_or us (i / 64) 0) (get_or vs (i / 64) 0) (made (i / 64) (omega arith)).0 (i % 64) (omega arith)

module _ (f : Bool → Bool → Bool) (none : f false false ≡ false) where
  Packs-zip2 : (us vs ws : List ℕ) (xs ys : List Bool) → length ws ≡ 16 → Makes f us vs ws → length xs ≡ length ys → length xs ≤ 1024 → Packs us xs → Packs vs ys → Packs ws (zip2 f xs ys)
  Packs-zip2 us vs ws xs ys long made same few p q i = by_order (cases_lt i 1024)
    where
      by_order : (i < 1024) ⊎ (1024 ≤ i) → is_set ws i ≡ get_or (zip2 f xs ys) i false
      by_order (inl lt) = made i lt ∙ ap₂ f (p i) (q i) ∙ sym (get_or-zip2_past f false false false none xs ys same i)
      by_order (inr past) = is_set_past ws i (omega arith) past ∙ sym (get_or-eq_default (zip2 f xs ys) false (omega (arith, length-zip2 f xs ys same)))

  -- what is made of two planes is a plane, and its flags
  pub combined : (us vs ws : List ℕ) (m n : ℕ) {xs ys : List Bool} → length ws ≡ 16 → Makes f us vs ws → length xs ≡ length ys
      → (m ≤ 1024) × Packs us (flags us m) → (n ≤ 1024) × Packs vs (flags vs n) → flags us m ≡ xs → flags vs n ≡ ys → ((m ≤ 1024) × Packs ws (flags ws m)) × (flags ws m ≡ zip2 f xs ys)
  combined us vs ws m n {xs} {ys} long made same p q a b =
      let few = p.0 in
      let m_long : length xs ≡ m = sym (ap length a) ∙ length-flags us m in
      let packs = Packs-zip2 us vs ws xs ys long made same (omega arith) (subst (Packs us) a p.1) (subst (Packs vs) b q.1) in
      let size : length (zip2 f xs ys) ≡ m = length-zip2 f xs ys same ∙ m_long in
      ((few, Packs-flags ws (zip2 f xs ys) m size packs), flags_packed ws (zip2 f xs ys) m size packs)

get_or-zeros : (n k : ℕ) → let zero_word : ℕ = 0 in get_or (replicate n zero_word) k 0 ≡ zero_word
get_or-zeros zero k = refl
get_or-zeros (suc n) zero = refl
get_or-zeros (suc n) (suc k) = get_or-zeros n k

-- words of no bit hold no flag
pub none_set : (n : ℕ) → Packs (replicate n 0) []
unfolding is_set
none_set n i = ap (λ w. bit_at w (i % 64) == 1) (get_or-zeros n (i / 64)) ∙ ap (λ b. b == 1) (bit_at-zero (i % 64))

-- the first flags of a word
bits_ones : (m i : ℕ) → (bit_at (2 ^ m - 1) i == 1) ≡ ltb i m
bits_ones m i = by_order (cases_lt i m)
  where
    by_order : (i < m) ⊎ (m ≤ i) → (bit_at (2 ^ m - 1) i == 1) ≡ ltb i m
    by_order (inl lt) = ap (λ n. n == 1) (bit_at_ones m i lt) ∙ sym (lt-ltb i m lt)
    by_order (inr le) = ap (λ n. n == 1) (bit_at_ones_above m i le) ∙ sym (le-ltb i m le)

not_either : (x y : Bool) → not (either x y) ≡ neither x y
not_either true y = refl
not_either false y = refl

pub same_order : (a b c d : ℕ) → (a < b → c < d) → (b ≤ a → d ≤ c) → ltb a b ≡ ltb c d
same_order a b c d f g = by_order (cases_lt a b)
  where
    by_order : (a < b) ⊎ (b ≤ a) → ltb a b ≡ ltb c d
    by_order (inl lt) = lt-ltb a b lt ∙ sym (lt-ltb c d (f lt))
    by_order (inr le) = le-ltb a b le ∙ sym (le-ltb c d (g le))

pub MakesBelow-words : (len : ℕ) (us vs ws : List ℕ) → ((k : ℕ) → k < 16 → (get_or us k 0 < 2 ^ 64) × (get_or vs k 0 < 2 ^ 64) × (get_or ws k 0 ≡ bit_and (2 ^ min (len - 64 * k) 64 - 1) (bit_not w64 (bit_or (get_or us k 0) (get_or vs k 0)))))
    → MakesBelow len neither us vs ws
unfolding is_set
MakesBelow-words len us vs ws made i lt =
    let k = i / 64 in
    let j = i % 64 in
    let a = get_or us k 0 in
    let b = get_or vs k 0 in
    let m = min (len - 64 * k) 64 in
    let h = made k (omega arith) in
    let fits : bit_or a b < 2 ^ 64 = or_lt 64 a b h.0 h.1 in
    let low : j < 64 = omega arith in
    ap (λ n. bit_at n j == 1) h.2
    ∙ Does-and (2 ^ m - 1) (bit_not w64 (bit_or a b)) (omega arith) j low
    ∙ ap₂ both (bits_ones m j ∙ same_order j m i len (λ lt. omega arith) (λ le. omega arith))
    (ap (λ n. n == 1) (bit_at_not w64 (bit_or a b) j fits low) ∙ bits_not (bit_at (bit_or a b) j) (bit_at-lt (bit_or a b) j) ∙ ap not (Does-or a b h.1 j low) ∙ not_either (bit_at a j == 1) (bit_at b j == 1))

-- what neither of two planes has is a plane
pub Packs-below : (f : Bool → Bool → Bool) (us vs ws : List ℕ) (m n : ℕ) {xs ys : List Bool} → length ws ≡ 16 → MakesBelow m f us vs ws → length xs ≡ length ys
    → (m ≤ 1024) × Packs us (flags us m) → (n ≤ 1024) × Packs vs (flags vs n) → flags us m ≡ xs → flags vs n ≡ ys → ((m ≤ 1024) × Packs ws (flags ws m)) × (flags ws m ≡ zip2 f xs ys)
Packs-below f us vs ws m n {xs} {ys} long made same p q a b =
    let few = p.0 in
    let m_long : length xs ≡ m = sym (ap length a) ∙ length-flags us m in
    let size : length (zip2 f xs ys) ≡ m = length-zip2 f xs ys same ∙ m_long in
    let packs : Packs ws (zip2 f xs ys) = λ i. by_order i size m_long few (cases_lt i m) in
    ((few, Packs-flags ws (zip2 f xs ys) m size packs), flags_packed ws (zip2 f xs ys) m size packs)
  where
    at : (i : ℕ) → i < 1024 → is_set ws i ≡ both (ltb i m) (f (get_or xs i false) (get_or ys i false))
    at i lt = made i lt ∙ ap (both (ltb i m)) (ap₂ f (subst (Packs us) a p.1 i) (subst (Packs vs) b q.1 i))

    by_order : (i : ℕ) → length (zip2 f xs ys) ≡ m → length xs ≡ m → m ≤ 1024 → (i < m) ⊎ (m ≤ i) → is_set ws i ≡ get_or (zip2 f xs ys) i false
    by_order i size m_long few (inl lt) =
        at i (omega arith) ∙ ap (λ t. both t (f (get_or xs i false) (get_or ys i false))) (lt-ltb i m lt) ∙ sym (get_or-zip2 f xs ys i false false false (omega arith) (omega arith))
    by_order i size m_long few (inr le) = clear (cases_lt i 1024) ∙ sym (get_or-eq_default (zip2 f xs ys) false (omega arith))
      where
        clear : (i < 1024) ⊎ (1024 ≤ i) → is_set ws i ≡ false
        clear (inl lt) = at i lt ∙ ap (λ t. both t (f (get_or xs i false) (get_or ys i false))) (le-ltb i m le)
        clear (inr past) = is_set_past ws i (omega arith) past

-- the test of a bit
pub is_set_word : (ws : List ℕ) (i : ℕ) → (bit_and (get_or ws (i / 64) 0 / 2 ^ (i % 64)) 1 == 1) ≡ is_set ws i
unfolding is_set
is_set_word ws i = ap (λ n. n == 1) (shr_and_one (get_or ws (i / 64) 0) (i % 64))
