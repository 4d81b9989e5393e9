-- A plane with one place more.
use Rattle.std.proofs.Common.{◌≡◌, ◌≢◌, ℕ, ◌+◌, ◌*◌, ◌/◌, ◌%◌, ◌^◌, ◌<◌, ◌≤◌, ◌==◌, Bool, true, false, List, [], ◌∷◌, ◌++◌, length, get_or, set, sym, ap, subst, ◌∙◌, ◌⊎◌, inl, inr, arith, w64}
use Rattle.std.specs.Int.{bit_at}
use Rattle.std.specs.Int.RustNames.{bit_or}
use Rattle.std.proofs.lemmas.Bool.{cases_eq, cases_lt}
use Rattle.std.proofs.lemmas.List.{get_or_append_left, get_or_push, get_or_past, get_or-set_same, get_or-set_other, length-append}
use Rattle.std.proofs.lemmas.Nat.Bits.{bit_at_set_same, bit_at_set_other}
use Rattle.cq_vectors_masks.specs.Plane.{IsPushed, is_set, flags, Packs}
use Rattle.cq_vectors_masks.proofs.PlaneLemmas.{length-flags, flags_packed, Packs-flags}

-- behind the flags stands the one that was added
push_same : (bs : List Bool) (b : Bool) (i : ℕ) → i ≡ length bs → get_or (bs ++ b ∷ []) i false ≡ b
push_same bs b i e = get_or_push bs b false i (sym e)

-- and elsewhere the flags are as before
push_other : (bs : List Bool) (b : Bool) (i : ℕ) → i ≢ length bs → get_or (bs ++ b ∷ []) i false ≡ get_or bs i false
push_other bs b i apart = by_order (cases_lt i (length bs))
  where
    by_order : (i < length bs) ⊎ (length bs ≤ i) → get_or (bs ++ b ∷ []) i false ≡ get_or bs i false
    by_order (inl lt) = get_or_append_left bs (b ∷ []) false i lt
    by_order (inr le) = get_or_past (bs ++ b ∷ []) i false (omega (arith, apart, length-append bs (b ∷ []))) ∙ sym (get_or_past bs i false le)

-- a flag that is not set changes no word
pub Packs-push_clear : (ws : List ℕ) (bs : List Bool) → Packs ws bs → Packs ws (bs ++ false ∷ [])
Packs-push_clear ws bs packs i = by_place (cases_eq i (length bs))
  where
    by_place : (i ≡ length bs) ⊎ (i ≢ length bs) → is_set ws i ≡ get_or (bs ++ false ∷ []) i false
    by_place (inl e) = packs i ∙ get_or_past bs i false (omega (arith, e)) ∙ sym (push_same bs false i e)
    by_place (inr apart) = packs i ∙ sym (push_other bs false i apart)

-- the word with one bit more
abbrev word_set : List ℕ → ℕ → ℕ
word_set ws n = bit_or (get_or ws (n / 64) 0) (1 * 2 ^ (n % 64) % 2 ^ 64)

-- a flag that is set is one bit of one word
pub Packs-push_set : (ws : List ℕ) (bs : List Bool) (n : ℕ) → length ws ≡ 16 → n < 1024 → length bs ≡ n → Packs ws bs → Packs (set ws (n / 64) (word_set ws n)) (bs ++ true ∷ [])
unfolding is_set
Packs-push_set ws bs n long few same packs i = by_place (cases_eq i n)
  where
    set_here : bit_at (get_or (set ws (n / 64) (word_set ws n)) (n / 64) 0) (n % 64) ≡ 1
    set_here = ap (λ w. bit_at w (n % 64)) (get_or-set_same ws (n / 64) (word_set ws n) 0 (omega arith)) ∙ bit_at_set_same w64 (get_or ws (n / 64) 0) (n % 64) (omega arith)

    not_here : i ≢ n → (i / 64 ≡ n / 64) ⊎ (i / 64 ≢ n / 64) → bit_at (get_or (set ws (n / 64) (word_set ws n)) (i / 64) 0) (i % 64) ≡ bit_at (get_or ws (i / 64) 0) (i % 64)
    not_here apart (inl e) =
        ap (λ k. bit_at (get_or (set ws (n / 64) (word_set ws n)) k 0) (i % 64)) e
        ∙ ap (λ w. bit_at w (i % 64)) (get_or-set_same ws (n / 64) (word_set ws n) 0 (omega arith))
        ∙ bit_at_set_other w64 (get_or ws (n / 64) 0) (n % 64) (omega arith) (i % 64) (λ f. apart (omega (arith, e, f)))
        ∙ sym (ap (λ k. bit_at (get_or ws k 0) (i % 64)) e)
    not_here apart (inr other) = ap (λ w. bit_at w (i % 64)) (get_or-set_other ws (n / 64) (i / 64) (word_set ws n) 0 other)

    by_place : (i ≡ n) ⊎ (i ≢ n) → is_set (set ws (n / 64) (word_set ws n)) i ≡ get_or (bs ++ true ∷ []) i false
    by_place (inl e) =
        ap (λ b. b == 1) (ap (λ k. bit_at (get_or (set ws (n / 64) (word_set ws n)) (k / 64) 0) (k % 64)) e ∙ set_here)
        ∙ sym (push_same bs true i (e ∙ sym same))
    by_place (inr apart) =
        ap (λ b. b == 1) (not_here apart (cases_eq (i / 64) (n / 64)))
        ∙ packs i ∙ sym (push_other bs true i (λ e. apart (e ∙ same)))

-- the words with the flag more are a plane, and its flags
pub pushed : (ws us : List ℕ) (n : ℕ) (bs : List Bool) (b : Bool) → IsPushed n b ws us → length bs < 1024 → flags ws n ≡ bs → (n ≤ 1024) × Packs ws (flags ws n)
    → ((n + 1 ≤ 1024) × Packs us (flags us (n + 1))) × (flags us (n + 1) ≡ bs ++ b ∷ [])
pushed ws us n bs b more few is plane =
    let long : length bs ≡ n = sym (ap length is) ∙ length-flags ws n in
    let size : length (bs ++ b ∷ []) ≡ n + 1 = omega (arith, length-append bs (b ∷ []), long) in
    let packs = more bs long (subst (Packs ws) is plane.1) in
    ((omega (arith, few, long), Packs-flags us (bs ++ b ∷ []) (n + 1) size packs), flags_packed us (bs ++ b ∷ []) (n + 1) size packs)

pub Packs-push_flag : (ws : List ℕ) (bs : List Bool) (b : Bool) (n : ℕ) → b ≡ true → length ws ≡ 16 → n < 1024 → length bs ≡ n → Packs ws bs → Packs (set ws (n / 64) (word_set ws n)) (bs ++ b ∷ [])
Packs-push_flag ws bs b n is_on long few same packs = subst (λ t. Packs (set ws (n / 64) (word_set ws n)) (bs ++ t ∷ [])) (sym is_on) (Packs-push_set ws bs n long few same packs)
