-- Answers of comparisons of signed lanes.
use Rattle.std.proofs.Common.{◌≡◌, ℕ, ◌+◌, ◌*◌, ◌-◌, ◌%◌, ◌^◌, ◌<◌, ◌≤◌, Bool, false, List, [], ◌∷◌, map, length, get_or, ℤ, pos, SFits, to_z, of_z, to_z-of_z, suc, cond, replicate, take, drop, subst, refl, sym, ap, ap₂, ◌∙◌, arith, eqb, ◌⊎◌, inl, inr}
use Rattle.std.specs.Int.{Width}
use mir.Val.{bits, hbits}
use Rattle.std.specs.Int.RustNames.{bit_or}
use Rattle.std.specs.List.{range_with_len}
use Rattle.std.specs.Ordering.{int_eq}
use lib.Lanes.{chunk, mask_l, top, zip2}
use lib.Seq.{ext_get_or}
use lib.ListN.{get_or-map, get_or-eq_default, length-take}
use Rattle.std.proofs.lemmas.Bool.{cases_lt}
use Rattle.std.proofs.lemmas.Bool.Decides.{Decides-eqb, Decides-int_eq, Decides-like, same_from_decides}
use Rattle.std.proofs.lemmas.Nat.{pow_pos}
use Rattle.std.proofs.Math.Seq.{take-length}
use Rattle.std.proofs.lemmas.List.{length-drop, length-map, map-append, take-replicate, drop-replicate}
use Rattle.std.proofs.lemmas.List.FromFn.{length-map-range_with_len, get_or-map-range_with_len}
use Rattle.std.proofs.lemmas.Simd.{length-chunk, get_or-chunk, length-zip2, get_or-zip2, mask_l-lt, mask_l-mod, tops_compared}
use Rattle.cq_vectors_masks.proofs.BlockLemmas.{or-mask_l}
use Rattle.cq_prims_lanes.proofs.Places.{map-replicate}
use Rattle.cq_vectors_masks.proofs.WalkLemmas.{range_with_len-add}

-- the bits of signed numbers are read as those numbers
pub signed : (w : Width) (xs : List ℤ) → ((k : ℕ) → SFits w (get_or xs k (pos 0))) → map (to_z w) (map (of_z w) xs) ≡ xs
signed w [] h = refl
signed w (x ∷ xs) h = ap₂ (λ y l. y ∷ l) (to_z-of_z (h 0)) (signed w xs (λ k. h (suc k)))

zero_fits : (w : Width) → SFits w (pos 0)
zero_fits w = record { sfits = pow_pos (hbits w) }

-- the items of a part of a list are items of the list, or past its end
fit_part : (w : Width) (a n : ℕ) (xs : List ℤ) → ((k : ℕ) → SFits w (get_or xs k (pos 0))) → (k : ℕ) → SFits w (get_or (chunk a n xs) k (pos 0))
fit_part w a n xs h k = by_order (cases_lt k n)
  where
    by_order : (k < n) ⊎ (n ≤ k) → SFits w (get_or (chunk a n xs) k (pos 0))
    by_order (inl lt) = subst (SFits w) (sym (get_or-chunk a n xs k (pos 0) lt)) (h (a + k))
    by_order (inr le) = subst (SFits w) (sym (get_or-eq_default (chunk a n xs) (pos 0) (omega (arith, length-take n (drop a xs))))) (zero_fits w)

-- n numbers of a slice from a place on
pub signed_column : (w : Width) (n : ℕ) (xs : List ℤ) (from : ℕ) → ((k : ℕ) → SFits w (get_or xs k (pos 0))) → map (to_z w) (map (of_z w) (chunk 0 n (take (length xs - from) (drop from xs)))) ≡ chunk from n xs
signed_column w n xs from h =
    let whole : take (length xs - from) (drop from xs) ≡ drop from xs = ap (λ m. take m (drop from xs)) (sym (length-drop from xs)) ∙ take-length (drop from xs) in
    ap (λ l. map (to_z w) (map (of_z w) (take n l))) whole ∙ signed w (chunk from n xs) (fit_part w from n xs h)

-- a number at each of so many places, read n at a time
pub signed_splat : (w : Width) (n : ℕ) (v : ℤ) (from len : ℕ) → SFits w v → from + n ≤ len → map (to_z w) (replicate n (of_z w v)) ≡ chunk from n (replicate len v)
signed_splat w n v from len fits room =
    map-replicate (to_z w) n (of_z w v) ∙ ap (λ z. replicate n z) (to_z-of_z fits) ∙ sym (ap (take n) (drop-replicate from len v) ∙ take-replicate n (len - from) v (omega arith))

module _ (w : Width) (t : ℕ → ℕ → Bool) (s : ℤ → ℤ → Bool) (agree : (x y : ℤ) → SFits w x → SFits w y → t (of_z w x) (of_z w y) ≡ s x y) where
  module _ (n : ℕ) (few : n ≤ 64) (xs ys : List ℤ) (from : ℕ) (room : from + n ≤ length xs) (same : length xs ≡ length ys) (f : (k : ℕ) → SFits w (get_or xs k (pos 0))) (g : (k : ℕ) → SFits w (get_or ys k (pos 0))) where
    abbrev left : List ℕ
    left = map (of_z w) (chunk from n xs)

    abbrev right : List ℕ
    right = map (of_z w) (chunk from n ys)

    abbrev pub answer : ℕ → Bool
    answer i = s (get_or xs i (pos 0)) (get_or ys i (pos 0))

    long_left : length left ≡ n
    long_left = length-map (chunk from n xs) (of_z w) ∙ length-chunk from n xs room

    long_right : length right ≡ n
    long_right = length-map (chunk from n ys) (of_z w) ∙ length-chunk from n ys (omega (arith, same))

    long : length (zip2 t left right) ≡ n
    long = length-zip2 t left right (long_left ∙ sym long_right) ∙ long_left

    read : (zs : List ℤ) (i : ℕ) → i < n → get_or (map (of_z w) (chunk from n zs)) i (of_z w (pos 0)) ≡ of_z w (get_or zs (from + i) (pos 0))
    read zs i lt = get_or-map (of_z w) (chunk from n zs) i (pos 0) ∙ ap (of_z w) (get_or-chunk from n zs i (pos 0) lt)

    answers : zip2 t left right ≡ map answer (range_with_len from n)
    answers = ext_get_or false _ _ (long ∙ sym (length-map-range_with_len answer from n)) (λ i lt.
        let within : i < n = omega (arith, long) in
        get_or-zip2 t left right i (of_z w (pos 0)) (of_z w (pos 0)) false (omega (arith, long_left)) (omega (arith, long_right))
        ∙ ap₂ t (read xs i within) (read ys i within)
        ∙ agree _ _ (f (from + i)) (g (from + i))
        ∙ sym (get_or-map-range_with_len answer from n i (from + i) false within refl))

    -- the bits of a comparison of n lanes are the answers of its places
    pub lane_answers : mask_l (map (top (hbits w)) (zip2 (λ a b. cond (t a b) (2 ^ bits w - 1) 0) left right)) % 2 ^ 64 ≡ mask_l (map answer (range_with_len from n))
    lane_answers = ap (λ ms. mask_l ms % 2 ^ 64) (tops_compared w t left right) ∙ mask_l-mod (zip2 t left right) 64 (omega (arith, long, few)) ∙ ap mask_l answers

-- n answers are below 2^n
pub answers_small : (h : ℕ → Bool) (from n : ℕ) → mask_l (map h (range_with_len from n)) < 2 ^ n
answers_small h from n = subst (λ (m : ℕ). mask_l (map h (range_with_len from n)) < 2 ^ m) (length-map-range_with_len h from n) (mask_l-lt (map h (range_with_len from n)))

-- equal numbers have the same bits, and no others
pub same_bits : (w : Width) (x y : ℤ) → SFits w x → SFits w y → eqb (of_z w x) (of_z w y) ≡ int_eq x y
same_bits w x y f g =
    same_from_decides (eqb (of_z w x) (of_z w y)) (int_eq x y)
    (Decides-like (eqb (of_z w x) (of_z w y)) (λ e. sym (to_z-of_z f) ∙ ap (to_z w) e ∙ to_z-of_z g) (ap (of_z w)) (Decides-eqb (of_z w x) (of_z w y))) (Decides-int_eq x y)

-- the answers of n places more
pub answers_more : (h : ℕ → Bool) (from m n w v : ℕ) → w ≡ mask_l (map h (range_with_len from m)) → v ≡ mask_l (map h (range_with_len (from + m) n)) * 2 ^ m → bit_or w v ≡ mask_l (map h (range_with_len from (m + n)))
answers_more h from m n w v p q =
    ap₂ bit_or p q
    ∙ or-mask_l (map h (range_with_len from m)) (map h (range_with_len (from + m) n)) m (length-map-range_with_len h from m)
    ∙ ap mask_l (sym (ap (map h) (range_with_len-add from m n) ∙ map-append h (range_with_len from m) (range_with_len (from + m) n)))
