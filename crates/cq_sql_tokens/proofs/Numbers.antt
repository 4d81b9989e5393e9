-- A number in front of a text, no more than 64 bits long.
use Rattle.std.proofs.Common.{◌≡◌, ℕ, ◌<◌, ◌≤◌, ◌-◌, ◌^◌, min, true, false, ◌&&◌, List, [], ◌∷◌, take, drop, None, sym, ap, ap₂, ◌∙◌, arith}
use Rattle.std.proofs.Math.Nat.{pow-le-pow_right}
use Rattle.std.proofs.lemmas.List.{take-take}
use Rattle.std.specs.List.{prefix_len}
use Rattle.std.proofs.lemmas.Bool.Decides.{nat_tests}
use Rattle.cq_sql_language.specs.declared.token.Token.TheVariants as tokens
use Rattle.cq_sql_language.specs.Characters.{is_blank, is_letter, is_digit, is_word_byte, is_dash, begins}
use Rattle.cq_sql_language.specs.Tokens.{decimal}
use Rattle.cq_sql_tokens.specs.Lexing.{gap_at, token_at, word_at, number_at}
use Rattle.cq_sql_tokens.specs.Runs.{IsNumberAt}
use Rattle.cq_sql_tokens.proofs.Prefixes.{prefix_of_first}
use Rattle.cq_sql_tokens.proofs.Spelled.{found}
use Rattle.std.proofs.lemmas.Bool.{and_left, cond-false, cond-true}

-- a digit is no blank, no dash and no letter
digit_not_blank : (b : ℕ) → is_digit b ≡ true → is_blank b ≡ false
digit_not_blank b e = grind (arith, nat_tests)

digit_not_dash : (b : ℕ) → is_digit b ≡ true → is_dash b ≡ false
digit_not_dash b e = grind (arith, nat_tests)

digit_not_letter : (b : ℕ) → is_digit b ≡ true → is_letter b ≡ false
digit_not_letter b e = grind (arith, nat_tests)

-- no blank and no comment is there
pub number_no_gap : (text : List ℕ) → begins is_digit text ≡ true → gap_at text ≡ None
unfolding gap_at
number_no_gap [] e = absurd cc
number_no_gap (b ∷ bs) e =
    cond-false (is_blank b) _ _ (digit_not_blank b e) ∙ cond-false (is_dash b && begins is_dash bs) _ _ (and_left (is_dash b) (begins is_dash bs) (digit_not_dash b e))

-- a digit stands for a number up to 9
pub digit_is_small : (b n : ℕ) → is_digit b ≡ true → n ≡ b - 48 → n ≤ 9
digit_is_small b n e n_is = grind (arith, nat_tests)

-- fifteen digits spell less than 2 ^ 60
pub power_small : (k : ℕ) → k < 16 → 10 ^ k ≤ 1000000000000000
power_small k few = pow-le-pow_right {n = 10} (omega arith) {i = k} {j = 15} (omega arith)

-- a number that ends among the first bytes is that of all bytes
pub number_of_first : (bytes first : List ℕ) (n : ℕ) (r : ℕ × ℕ) → first ≡ take n bytes → r.1 < n → IsNumberAt first r → IsNumberAt bytes r
number_of_first bytes first n r is ends h =
    let len : r.1 ≡ prefix_len is_digit (take n bytes) = h.0 ∙ ap (prefix_len is_digit) is in
    let same : prefix_len is_digit bytes ≡ prefix_len is_digit (take n bytes) = prefix_of_first is_digit n bytes (omega (arith, len)) in
    (len ∙ sym same, h.1 ∙ ap (λ (xs : List ℕ). decimal (take r.1 xs)) is ∙ ap decimal (take-take r.1 n bytes (omega arith)), h.2)

-- the least of a small number and a great one
min_small : (n : ℕ) → n < 2 ^ 64 → min n (2 ^ 128 - 1) ≡ n
min_small n small = omega arith

-- where all digits in front spell a small number, it is the token
pub small_number_token : (text rest : List ℕ) (n len : ℕ) → begins is_digit text ≡ true → len ≡ prefix_len is_digit text → n ≡ decimal (take len text) → n < 2 ^ 64 → rest ≡ drop len text → begins is_word_byte rest ≡ false
    → token_at text ≡ found (tokens.Number n) rest
unfolding token_at number_at
small_number_token [] rest n len e len_is n_is small rest_is stops = absurd cc
small_number_token (b ∷ bs) rest n len e len_is n_is small rest_is stops =
    let text : List ℕ = b ∷ bs in
    let ends : begins is_word_byte (drop (prefix_len is_digit text) text) ≡ false = rw (← len_is, ← rest_is) stops in
    let value : min (decimal (take (prefix_len is_digit text) text)) (2 ^ 128 - 1) ≡ n = rw (← len_is, ← n_is) (min_small n small) in
    let after : drop (prefix_len is_digit text) text ≡ rest = rw (← len_is) (sym rest_is) in
    cond-false (is_letter b) (word_at text) _ (digit_not_letter b e)
    ∙ cond-true (is_digit b) (number_at text) _ e
    ∙ cond-false (begins is_word_byte (drop (prefix_len is_digit text) text)) None _ ends
    ∙ ap₂ (λ (m : ℕ) (r : List ℕ). found (tokens.Number m) r) value after
