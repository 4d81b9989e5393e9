-- Digits of a number.
use Rattle.std.proofs.Common.{◌≡◌, ℕ, zero, suc, ◌+◌, ◌-◌, ◌*◌, ◌/◌, ◌%◌, ◌^◌, ◌<◌, ◌≤◌, List, [], ◌∷◌, length, get_or, set, replicate, take, drop, refl, sym, ap, ap₂, subst, zero-add, ◌∙◌, arith, add-one}
use Rattle.std.proofs.Math.Nat.{add-mul-mod_self_left, zero-div, div-one, mod-one, mul_comm, mul_assoc, mul_left_comm, mul-le-mul_left, mul-add, mul-zero, mul-suc, div-add-mod}
use Rattle.std.proofs.lemmas.List.{get_or-take, get_or-drop, get_or-replicate, length-replicate, length-take-le, length-drop}
use Rattle.std.proofs.lemmas.List.Edits.{fill_by_more}
use Rattle.std.proofs.lemmas.List.FromFn.{fill_by_all, get_or-map-range_with_len, length-map-range_with_len}
use Rattle.std.proofs.lemmas.Nat.{pow-add, shr-shr, shr_high, mod_low, field_of, shr_split, and_mask, or_shifted, shl_whole}
use Rattle.std.proofs.lemmas.Nat.Bits.{ones_shr}
use Rattle.std.specs.Int.RustNames.{bit_and, bit_or}
use Rattle.cq_bits.specs.Packed.{number_of, value_at, values_from}

-- the number without its lowest digit
number_of-shr : (w x : ℕ) (xs : List ℕ) → x < 2 ^ w → number_of w (x ∷ xs) / 2 ^ w ≡ number_of w xs
unfolding number_of
number_of-shr w x xs small = ap (λ (n : ℕ). n / 2 ^ w) (omega (arith, mul_comm (2 ^ w) (number_of w xs))) ∙ shr_high (number_of w xs) w x small

-- the number without its lowest digits
pub number_of-drop : (w k : ℕ) (xs : List ℕ) → ((i : ℕ) → get_or xs i 0 < 2 ^ w) → number_of w xs / 2 ^ (w * k) ≡ number_of w (drop k xs)
unfolding number_of
number_of-drop w zero xs small = ap (λ (n : ℕ). number_of w xs / 2 ^ n) (mul-zero w) ∙ div-one (number_of w xs)
number_of-drop w (suc k) [] small = zero-div (2 ^ (w * suc k))
number_of-drop w (suc k) (x ∷ xs) small =
    ap (λ (n : ℕ). number_of w (x ∷ xs) / 2 ^ n) (omega (arith, mul-suc w k))
    ∙ sym (shr-shr (number_of w (x ∷ xs)) w (w * k))
    ∙ ap (λ (n : ℕ). n / 2 ^ (w * k)) (number_of-shr w x xs (small 0))
    ∙ number_of-drop w k xs (λ i. small (suc i))

-- the lowest digit, and those above it
pub number_of-step : (w k : ℕ) (xs : List ℕ) → number_of w (drop k xs) ≡ get_or xs k 0 + 2 ^ w * number_of w (drop (suc k) xs)
unfolding number_of
number_of-step w zero [] = omega (arith, mul-zero (2 ^ w))
number_of-step w (suc k) [] = omega (arith, mul-zero (2 ^ w))
number_of-step w zero (x ∷ xs) = refl
number_of-step w (suc k) (x ∷ xs) = number_of-step w k xs

-- bits below 2 ^ m are those of what is below it
pub cut : (a b m s w : ℕ) → s + w ≤ m → (a + 2 ^ m * b) / 2 ^ s % 2 ^ w ≡ a / 2 ^ s % 2 ^ w
cut a b m s w within =
    sym (field_of (a + 2 ^ m * b) w s) ∙ ap (λ (n : ℕ). n / 2 ^ s) same ∙ field_of a w s
  where
    power : 2 ^ m ≡ 2 ^ (w + s) * 2 ^ (m - (w + s))
    power = ap (λ (n : ℕ). 2 ^ n) (omega (arith, within)) ∙ pow-add 2 (w + s) (m - (w + s))

    same : (a + 2 ^ m * b) % 2 ^ (w + s) ≡ a % 2 ^ (w + s)
    same =
        ap (λ (n : ℕ). (a + n) % 2 ^ (w + s)) (ap (λ (p : ℕ). p * b) power ∙ mul_assoc (2 ^ (w + s)) (2 ^ (m - (w + s))) b)
        ∙ add-mul-mod_self_left a (2 ^ (w + s)) (2 ^ (m - (w + s)) * b)

-- and those of the number modulo 2 ^ m
pub cut_mod : (n m s w : ℕ) → s + w ≤ m → n % 2 ^ m / 2 ^ s % 2 ^ w ≡ n / 2 ^ s % 2 ^ w
cut_mod n m s w within =
    sym (cut (n % 2 ^ m) (n / 2 ^ m) m s w within) ∙ ap (λ (n : ℕ). n / 2 ^ s % 2 ^ w) (omega (arith, shr_split n m, mul_comm (2 ^ m) (n / 2 ^ m)))

-- a digit
pub digit_at : (w k : ℕ) (xs : List ℕ) → ((i : ℕ) → get_or xs i 0 < 2 ^ w) → number_of w xs / 2 ^ (w * k) % 2 ^ w ≡ get_or xs k 0
digit_at w k xs small =
    ap (λ (n : ℕ). n % 2 ^ w) (number_of-drop w k xs small ∙ number_of-step w k xs ∙ omega (arith, mul_comm (2 ^ w) (number_of w (drop (suc k) xs))))
    ∙ mod_low (number_of w (drop (suc k) xs)) w (get_or xs k 0) (small k)

-- 64 bits from a bit of a word on are those of two words
pub two_words : (k s : ℕ) (xs : List ℕ) → s < 64 → ((i : ℕ) → get_or xs i 0 < 2 ^ 64) → number_of 64 xs / 2 ^ (64 * k + s) % 2 ^ 64 ≡ (get_or xs (suc k) 0 * 2 ^ 64 + get_or xs k 0) / 2 ^ s % 2 ^ 64
two_words k s xs within small =
    ap (λ (n : ℕ). n % 2 ^ 64) (sym (shr-shr (number_of 64 xs) (64 * k) s) ∙ ap (λ (n : ℕ). n / 2 ^ s) (number_of-drop 64 k xs small ∙ words))
    ∙ cut (get_or xs (suc k) 0 * 2 ^ 64 + get_or xs k 0) (number_of 64 (drop (suc (suc k)) xs)) 128 s 64 (omega arith)
  where
    words : number_of 64 (drop k xs) ≡ get_or xs (suc k) 0 * 2 ^ 64 + get_or xs k 0 + 2 ^ 128 * number_of 64 (drop (suc (suc k)) xs)
    words = omega (arith, number_of-step 64 k xs, number_of-step 64 (suc k) xs)

-- the product of a width and a place, by whole words
pub whole_words : (w n : ℕ) → w * n ≡ 64 * (n / 64 * w) + n % 64 * w
whole_words w n =
    let parts : n ≡ 64 * (n / 64) + n % 64 = omega arith in
    let e : w * n ≡ w * (64 * (n / 64) + n % 64) = ap (λ (m : ℕ). w * m) parts in
    omega (arith, e, mul-add w (64 * (n / 64)) (n % 64), mul_left_comm w 64 (n / 64), mul_comm w (n / 64), mul_comm w (n % 64))

-- values before the end have all of their bits before the end
before_end : (w s i m n : ℕ) → i + m ≤ n → w * (s + i) + w * m ≤ w * (s + n)
before_end w s i m n le = omega (arith, mul-add w (s + i) m, mul-le-mul_left w (let h : s + i + m ≤ s + n = omega arith in h))

-- a value of a window ends within
pub ends_within : (w j per : ℕ) → j < per → w * j + w ≤ w * per
ends_within w j per lt = omega (arith, mul-suc w j, mul-le-mul_left w (let h : suc j ≤ per = lt in h))

-- a window that is before the last one ends within
pub within_windows : (per k n : ℕ) → 0 < per → k < n / per → per * k + per ≤ n
within_windows per k n some lt = omega (arith, mul-suc per k, mul-le-mul_left per (let h : suc k ≤ n / per = lt in h), div-add-mod n per, mul_comm per (n / per))

-- the values of such a window have all of their bits before the end
pub before_windows : (w s per k n : ℕ) → 0 < per → k < n / per → w * (s + per * k) + w * per ≤ w * (s + n)
before_windows w s per k n some lt = before_end w s (per * k) per n (within_windows per k n some lt)

-- the lowest bits
masked : (n w : ℕ) → w ≤ 64 → bit_and n (18446744073709551615 / 2 ^ (64 - w)) ≡ n % 2 ^ w
masked n w narrow = ap (bit_and n) (ones_shr 64 (64 - w) (omega arith) ∙ ap (λ (k : ℕ). 2 ^ k - 1) (omega (arith, narrow))) ∙ and_mask n w

-- two words are put together, and 64 bits of them are read
pub read_window : (words : List ℕ) (k s high low : ℕ) → high ≡ get_or words (k + 1) 0 → low ≡ get_or words k 0 → s < 64 → ((i : ℕ) → get_or words i 0 < 2 ^ 64)
    → bit_and (bit_or (high * 2 ^ 64 % 2 ^ 128) low / 2 ^ s) 18446744073709551615 ≡ number_of 64 words / 2 ^ (64 * k + s) % 2 ^ 64
read_window words k s high low is_high is_low within small =
    and_mask (bit_or (high * 2 ^ 64 % 2 ^ 128) low / 2 ^ s) 64
    ∙ ap (λ (n : ℕ). n / 2 ^ s % 2 ^ 64) (ap (λ (n : ℕ). bit_or n low) (shl_whole high 64 64 128 high_small (omega arith)) ∙ or_shifted high 64 low low_small ∙ ap₂ (λ (a b : ℕ). a * 2 ^ 64 + b) at_high is_low)
    ∙ sym (two_words k s words within small)
  where
    at_high : high ≡ get_or words (suc k) 0
    at_high = is_high ∙ ap (λ (n : ℕ). get_or words n 0) (add-one k)

    high_small : high < 2 ^ 64
    high_small = subst (λ (n : ℕ). n < 2 ^ 64) (sym is_high) (small (k + 1))

    low_small : low < 2 ^ 64
    low_small = subst (λ (n : ℕ). n < 2 ^ 64) (sym is_low) (small k)

-- the first value of a window
first_of_window : (width place bits : ℕ) (words : List ℕ) → bits ≡ number_of 64 words / 2 ^ (width * place) % 2 ^ 64 → width ≤ 64 → bits % 2 ^ width ≡ value_at width words place
unfolding value_at
first_of_window width place bits words is narrow =
    ap (λ (n : ℕ). n % 2 ^ width) (is ∙ sym (div-one _))
    ∙ cut_mod (number_of 64 words / 2 ^ (width * place)) 64 0 width (omega (arith, narrow))
    ∙ ap (λ (n : ℕ). n % 2 ^ width) (div-one _)

-- a value is read in a window of 64 bits
in_window : (width place j bits : ℕ) (words : List ℕ) → bits ≡ number_of 64 words / 2 ^ (width * place) % 2 ^ 64 → width * j + width ≤ 64 → bits / 2 ^ (width * j) % 2 ^ width ≡ value_at width words (place + j)
unfolding value_at
in_window width place j bits words is within =
    ap (λ (n : ℕ). n / 2 ^ (width * j) % 2 ^ width) is
    ∙ cut_mod (number_of 64 words / 2 ^ (width * place)) 64 (width * j) width within
    ∙ ap (λ (n : ℕ). n % 2 ^ width) (shr-shr (number_of 64 words) (width * place) (width * j) ∙ ap (λ (n : ℕ). number_of 64 words / 2 ^ n) (sym (mul-add width place j)))

-- and is cut out of it by a mask
pub cut_out : (width place j bits : ℕ) (words : List ℕ) → bits ≡ number_of 64 words / 2 ^ (width * place) % 2 ^ 64 → width * j + width ≤ 64
    → bit_and (bits / 2 ^ (width * j)) (18446744073709551615 / 2 ^ (64 - width)) ≡ value_at width words (place + j)
cut_out width place j bits words is within = masked (bits / 2 ^ (width * j)) width (omega (arith, within)) ∙ in_window width place j bits words is within

-- the first one by the mask alone
pub cut_out_first : (width place bits : ℕ) (words : List ℕ) → bits ≡ number_of 64 words / 2 ^ (width * place) % 2 ^ 64 → width ≤ 64
    → bit_and bits (18446744073709551615 / 2 ^ (64 - width)) ≡ value_at width words place
cut_out_first width place bits words is narrow = masked bits width narrow ∙ first_of_window width place bits words is narrow

-- a value of no bits
pub value_at-zero : (words : List ℕ) (place : ℕ) → value_at 0 words place ≡ 0
unfolding value_at
value_at-zero words place = mod-one (number_of 64 words / 2 ^ (0 * place))

-- one value more is written
pub value_written : (f : ℕ → ℕ) (xs : List ℕ) (i v : ℕ) → v ≡ f i → i < length xs → ((k : ℕ) → k < i → get_or xs k 0 ≡ f k) → (k : ℕ) → k < i + 1 → get_or (set xs i v) k 0 ≡ f k
value_written f xs i v is within before k lt = ap (λ (w : ℕ). get_or (set xs i w) k 0) is ∙ fill_by_more f xs i 0 within before k lt

-- zeros are values of no bits
pub values_from-zero : (words : List ℕ) (start len : ℕ) → replicate len 0 ≡ values_from 0 words start len
values_from-zero words start len =
    fill_by_all (λ i. value_at 0 words (start + i)) (replicate len 0) len 0 (length-replicate len 0)
    (λ k lt. get_or-replicate len k 0 0 lt ∙ sym (value_at-zero words (start + k)))

-- words are values of 64 bits
pub values_from-64 : (words : List ℕ) (start len : ℕ) → start + len ≤ length words → ((i : ℕ) → get_or words i 0 < 2 ^ 64) → take len (drop start words) ≡ values_from 64 words start len
unfolding value_at
values_from-64 words start len within small =
    fill_by_all (λ i. value_at 64 words (start + i)) (take len (drop start words)) len 0 (length-take-le len (drop start words) (omega (arith, length-drop start words)))
    (λ k lt. get_or-take len (drop start words) k 0 lt ∙ get_or-drop start words k 0 ∙ sym (digit_at 64 (start + k) words small))

-- values from a place on are a part of all values
pub values_part : (to words : List ℕ) (width start n : ℕ) → to ≡ values_from width words start n → (len : ℕ) → start + n ≤ len → to ≡ take n (drop start (values_from width words 0 len))
values_part to words width start n is len within = is ∙ sym (fill_by_all (λ i. value_at width words (start + i)) (take n (drop start all)) n 0 long each)
  where
    all : List ℕ
    all = values_from width words 0 len

    long : length (take n (drop start all)) ≡ n
    long = length-take-le n (drop start all) (omega (arith, length-drop start all, length-map-range_with_len (λ i. value_at width words (0 + i)) 0 len))

    each : (k : ℕ) → k < n → get_or (take n (drop start all)) k 0 ≡ value_at width words (start + k)
    each k lt =
        get_or-take n (drop start all) k 0 lt ∙ get_or-drop start all k 0
        ∙ get_or-map-range_with_len (λ i. value_at width words (0 + i)) 0 len (start + k) (start + k) 0 (omega (arith, lt, within)) (zero-add (start + k))
        ∙ ap (value_at width words) (zero-add (start + k))

-- there are as many values as were asked for
pub length-values_from : (width : ℕ) (words : List ℕ) (len : ℕ) → length (values_from width words 0 len) ≡ len
length-values_from width words len = length-map-range_with_len (λ i. value_at width words (0 + i)) 0 len

-- the value at a place
pub values_from_at : (width : ℕ) (words : List ℕ) (len place : ℕ) → place < len → get_or (values_from width words 0 len) place 0 ≡ value_at width words place
values_from_at width words len place lt =
    get_or-map-range_with_len (λ i. value_at width words (0 + i)) 0 len place place 0 lt (zero-add place) ∙ ap (value_at width words) (zero-add place)
