-- Words that are written from left to right.
use Rattle.std.proofs.Common.{◌≡◌, ℕ, suc, ◌+◌, ◌*◌, ◌/◌, ◌%◌, ◌^◌, ◌<◌, ◌≤◌, List, [], ◌∷◌, ◌++◌, length, get_or, take, refl, sym, ap, ap₂, subst, ◌∙◌, arith, ◌⊎◌, inl, inr}
use Rattle.std.specs.List.{All}
use Rattle.std.specs.Int.RustNames.{bit_or}
use Rattle.std.proofs.Math.Nat.{mul-add, mul-suc, mul-zero, mul_assoc, mul_comm}
use Rattle.std.proofs.lemmas.Bool.{cases_lt}
use Rattle.std.proofs.lemmas.List.{get_or_past, length-append, take_more}
use Rattle.std.proofs.lemmas.List.FromFn.{fill_by_all}
use Rattle.std.proofs.lemmas.Nat.{mul-add-lt, or_comm, or_shifted, pow-add, pow_pos, shl_whole, shr_below}
use Rattle.cq_bits.specs.Packed.{IsPacked, number_of, value_at, values_from}
use Rattle.cq_bits.proofs.Digits.{digit_at}

length-push : (xs : List ℕ) (x : ℕ) → length (xs ++ x ∷ []) ≡ suc (length xs)
length-push xs x = omega (arith, length-append xs (x ∷ []))

-- a digit above the others
pub number_of-push : (w : ℕ) (xs : List ℕ) (x : ℕ) → number_of w (xs ++ x ∷ []) ≡ number_of w xs + 2 ^ (w * length xs) * x
unfolding number_of
number_of-push w [] x =
    let whole : 2 ^ (w * 0) * x ≡ 1 * x = ap (λ (n : ℕ). 2 ^ n * x) (mul-zero w) in
    omega (arith, whole, mul-zero (2 ^ w))
number_of-push w (y ∷ ys) x =
    let power : 2 ^ (w * suc (length ys)) ≡ 2 ^ w * 2 ^ (w * length ys) = ap (λ (n : ℕ). 2 ^ n) (omega (arith, mul-suc w (length ys))) ∙ pow-add 2 w (w * length ys) in
    let product : 2 ^ (w * suc (length ys)) * x ≡ 2 ^ w * (2 ^ (w * length ys) * x) = ap (λ (n : ℕ). n * x) power ∙ mul_assoc (2 ^ w) (2 ^ (w * length ys)) x in
    let rest : 2 ^ w * number_of w (ys ++ x ∷ []) ≡ 2 ^ w * (number_of w ys + 2 ^ (w * length ys) * x) = ap (λ (n : ℕ). 2 ^ w * n) (number_of-push w ys x) in
    omega (arith, product, rest, mul-add (2 ^ w) (number_of w ys) (2 ^ (w * length ys) * x))

-- a value above the bits that are held
held_more : (held value bits width : ℕ) → held < 2 ^ bits → value < 2 ^ width → bits < 64 → width ≤ 64 → bit_or held (value * 2 ^ bits % 2 ^ 128) ≡ value * 2 ^ bits + held
held_more held value bits width held_small small few narrow =
    ap (bit_or held) (shl_whole value width bits 128 small (omega arith))
    ∙ or_comm held (value * 2 ^ bits) ∙ or_shifted value bits held held_small

-- is below what so many bits can be
held_more_small : (held value bits width : ℕ) → held < 2 ^ bits → value < 2 ^ width → value * 2 ^ bits + held < 2 ^ (bits + width)
held_more_small held value bits width held_small small = subst (λ (n : ℕ). value * 2 ^ bits + held < n) (sym (pow-add 2 bits width)) (mul-add-lt value (2 ^ bits) held (2 ^ width) small held_small)

-- words and the bits that are held behind them write these values
pub record Holds (width bits held : ℕ) (words values : List ℕ) : Type 0 where
  pub same : number_of 64 words + 2 ^ (64 * length words) * held ≡ number_of width values
  pub long : 64 * length words + bits ≡ width * length values
  pub small : held < 2 ^ bits

-- nothing is held yet
pub Holds-none : (width : ℕ) (words : List ℕ) → words ≡ [] → Holds width 0 0 words []
unfolding number_of
Holds-none width words empty = subst (λ (ws : List ℕ). Holds width 0 0 ws []) (sym empty) (record { same = refl; long = sym (mul-zero width); small = omega arith })

-- the same in other terms
pub Holds-as : (width b held bits bits_held : ℕ) (ws words vs values : List ℕ) → b ≡ bits → held ≡ bits_held → ws ≡ words → vs ≡ values → Holds width b held ws vs → Holds width bits bits_held words values
Holds-as width b held bits bits_held ws words vs values eb eh ew ev holds =
    subst (λ (n : ℕ). Holds width n bits_held words values) eb
    (subst (λ (n : ℕ). Holds width b n words values) eh
    (subst (λ (xs : List ℕ). Holds width b held xs values) ew
    (subst (λ (xs : List ℕ). Holds width b held ws xs) ev holds)))

-- a value more is held
Holds-more : (width bits held value : ℕ) (words values : List ℕ) → Holds width bits held words values → value < 2 ^ width → Holds width (bits + width) (value * 2 ^ bits + held) words (values ++ value ∷ [])
Holds-more width bits held value words values holds small = record {
  same =
      let product : 2 ^ (64 * length words) * (value * 2 ^ bits) ≡ 2 ^ (width * length values) * value =
      ap (λ (n : ℕ). 2 ^ (64 * length words) * n) (mul_comm value (2 ^ bits))
      ∙ sym (mul_assoc (2 ^ (64 * length words)) (2 ^ bits) value)
      ∙ ap (λ (n : ℕ). n * value) (sym (pow-add 2 (64 * length words) bits) ∙ ap (λ (n : ℕ). 2 ^ n) holds.long) in
      omega (arith, product, holds.same, mul-add (2 ^ (64 * length words)) (value * 2 ^ bits) held, number_of-push width values value);
  long = omega (arith, holds.long, mul-suc width (length values), length_more, ap (λ (n : ℕ). width * n) length_more);
  small = held_more_small held value bits width holds.small small;
}
  where
    length_more : length (values ++ value ∷ []) ≡ suc (length values)
    length_more = length-push values value

-- and that is the next one of a list
pub Holds-next : (width bits held value i : ℕ) (words values : List ℕ) → Holds width bits held words (take i values) → i < length values → value ≡ get_or values i 0 → All (λ v. v < 2 ^ width) values → bits < 64 → width ≤ 64
    → Holds width (bits + width) (bit_or held (value * 2 ^ bits % 2 ^ 128)) words (take (i + 1) values)
Holds-next width bits held value i words values holds lt is fit few narrow =
    let small : value < 2 ^ width = subst (λ (n : ℕ). n < 2 ^ width) (sym is) (fit i 0 lt) in
    Holds-as width _ _ _ _ _ _ _ _ refl (sym (held_more held value bits width holds.small small few narrow)) refl
    (ap (λ (v : ℕ). take i values ++ v ∷ []) is ∙ sym (take_more values i 0 lt)) (Holds-more width bits held value words (take i values) holds small)

-- a word is full
pub Holds-word : (width bits held : ℕ) (words values : List ℕ) → Holds width (bits + 64) held words values → Holds width bits (held / 2 ^ 64) (words ++ held % 2 ^ 64 ∷ []) values
Holds-word width bits held words values holds = record {
  same =
      let power : 2 ^ (64 * length (words ++ held % 2 ^ 64 ∷ [])) ≡ 2 ^ (64 * length words) * 2 ^ 64 =
      ap (λ (n : ℕ). 2 ^ n) (omega (arith, length_more)) ∙ pow-add 2 (64 * length words) 64 in
      let product : 2 ^ (64 * length (words ++ held % 2 ^ 64 ∷ [])) * (held / 2 ^ 64) ≡ 2 ^ (64 * length words) * (2 ^ 64 * (held / 2 ^ 64)) =
      ap (λ (n : ℕ). n * (held / 2 ^ 64)) power ∙ mul_assoc (2 ^ (64 * length words)) (2 ^ 64) (held / 2 ^ 64) in
      let parts : held ≡ held % 2 ^ 64 + 2 ^ 64 * (held / 2 ^ 64) = omega arith in
      let whole : 2 ^ (64 * length words) * held ≡ 2 ^ (64 * length words) * (held % 2 ^ 64 + 2 ^ 64 * (held / 2 ^ 64)) = ap (λ (n : ℕ). 2 ^ (64 * length words) * n) parts in
      omega (arith, product, whole, holds.same, mul-add (2 ^ (64 * length words)) (held % 2 ^ 64) (2 ^ 64 * (held / 2 ^ 64)), number_of-push 64 words (held % 2 ^ 64));
  long = omega (arith, holds.long, length_more);
  small = shr_below held bits 64 holds.small;
}
  where
    length_more : length (words ++ held % 2 ^ 64 ∷ []) ≡ suc (length words)
    length_more = length-push words (held % 2 ^ 64)

-- what is held is the last word
pub IsPacked-last : (width bits held : ℕ) (words values : List ℕ) → Holds width bits held words values → 0 < bits → bits < 64 → IsPacked width values (words ++ held ∷ [])
IsPacked-last width bits held words values holds some few = record {
  same = number_of-push 64 words held ∙ holds.same;
  least = omega (arith, holds.long, length-push words held);
}

-- or nothing is held
pub IsPacked-whole : (width held : ℕ) (words values : List ℕ) → Holds width 0 held words values → IsPacked width values words
IsPacked-whole width held words values holds = record {
  same =
      let none : 2 ^ (64 * length words) * held ≡ 0 = ap (λ (n : ℕ). 2 ^ (64 * length words) * n) (omega (arith, holds.small)) ∙ mul-zero (2 ^ (64 * length words)) in
      omega (arith, none, holds.same);
  least = omega (arith, holds.long);
}

-- what is packed is read back
pub read_back : (width : ℕ) (values words : List ℕ) → All (λ value. value < 2 ^ width) values → IsPacked width values words → values_from width words 0 (length values) ≡ values
unfolding value_at
read_back width values words fit packed =
    sym (fill_by_all (λ i. value_at width words (0 + i)) values (length values) 0 refl (λ k lt. sym (at_place k)))
  where
    small : (i : ℕ) → get_or values i 0 < 2 ^ width
    small i = by_place (cases_lt i (length values))
      where
        by_place : (i < length values) ⊎ (length values ≤ i) → get_or values i 0 < 2 ^ width
        by_place (inl lt) = fit i 0 lt
        by_place (inr le) = subst (λ (n : ℕ). n < 2 ^ width) (sym (get_or_past values i 0 le)) (pow_pos width)

    at_place : (k : ℕ) → value_at width words (0 + k) ≡ get_or values k 0
    at_place k =
        ap₂ (λ (n p : ℕ). n / 2 ^ (width * p) % 2 ^ width) packed.same (omega arith)
        ∙ digit_at width k values small
