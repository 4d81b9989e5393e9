-- Texts that stand one behind the other are the same where their bytes are, and where each of them ends.
use Rattle.std.proofs.Common.{◌≡◌, ◌∙◌, ℕ, suc, ◌+◌, ◌<◌, List, [], ◌∷◌, ◌++◌, length, take, drop, sym, ap, ap₂, refl, arith, drop_at, length-append, take_all, take_at}
use Rattle.std.specs.List.{concat}

-- the first text of two runs is the same, and so are the bytes of the others
first_same : (a b xs ys : List ℕ) → length a ≡ length b → a ++ xs ≡ b ++ ys → a ≡ b
first_same a b xs ys long whole =
    sym (take_at a xs (length b) long) ∙ ap (λ (l : List ℕ). take (length b) l) whole ∙ take_at b ys (length b) refl

others_same : (a b xs ys : List ℕ) → length a ≡ length b → a ++ xs ≡ b ++ ys → xs ≡ ys
others_same a b xs ys long whole =
    sym (drop_at a xs (length b) long) ∙ ap (λ (l : List ℕ). drop (length b) l) whole ∙ drop_at b ys (length b) refl

-- all texts of a run
pub all_texts : (xs : List (List ℕ)) (n : ℕ) → n ≡ length xs → concat (take n (drop 0 xs)) ≡ concat xs
all_texts xs n e = ap (λ (k : ℕ). concat (take k (drop 0 xs))) e ∙ ap concat (take_all (length xs) xs (omega arith))

-- the first texts of a run, and one more
one_more : (a : List ℕ) (xs : List (List ℕ)) (j : ℕ) → length (concat (take (j + 1 + 1) (a ∷ xs))) ≡ length a + length (concat (take (j + 1) xs))
one_more a xs j =
    ap (λ (n : ℕ). length (concat (take n (a ∷ xs)))) {x = j + 1 + 1} {y = suc (j + 1)} (omega arith) ∙ length-append a (concat (take (j + 1) xs))

-- the texts of two runs are the same where all bytes are, and where each text ends
pub same_texts : (xs ys : List (List ℕ)) → length xs ≡ length ys → concat xs ≡ concat ys
    → ((j : ℕ) → j < length xs → length (concat (take (j + 1) xs)) ≡ length (concat (take (j + 1) ys))) → xs ≡ ys
same_texts [] [] long whole ends = refl
same_texts [] (b ∷ ys) long whole ends = absurd (cc long)
same_texts (a ∷ xs) [] long whole ends = absurd (cc long)
same_texts (a ∷ xs) (b ∷ ys) long whole ends =
    let first : length a ≡ length b = omega (arith, ends 0 (omega arith), length-append a [], length-append b []) in
    ap₂ (λ (t : List ℕ) (l : List (List ℕ)). t ∷ l) (first_same a b (concat xs) (concat ys) first whole)
    (same_texts xs ys (omega (arith, long)) (others_same a b (concat xs) (concat ys) first whole)
    (λ j lt. omega (arith, first, ends (j + 1) (omega (arith, lt)), one_more a xs j, one_more b ys j)))
