-- Where a text may be cut: behind ASCII bytes, and before one.
use Rattle.std.proofs.Common.{◌≡◌, ℕ, zero, suc, ◌<◌, Bool, true, false, not, ◌==◌, List, ◌++◌, length, take, get_or, refl, sym, ap, ◌∙◌, subst, add-one, arith}
use Rattle.std.specs.List.{prefix_len}
use Rattle.std.proofs.lemmas.Bool.Decides.{nat_tests}
use Rattle.cq_sql_language.specs.Characters.{is_blank, is_digit, is_word_byte}
use Rattle.std.specs.Str.{IsUtf8, IsCharBoundary, IsAscii}
use Rattle.std.proofs.lemmas.List.{take_at, length-append}
use Rattle.std.proofs.lemmas.List.Sums.{prefix_len-le-length, prefix_len_passes, prefix_len_stops}
use Rattle.std.proofs.lemmas.Str.{IsUtf8-from_ascii, IsCharBoundary-start, IsCharBoundary-after_ascii, IsCharBoundary-before_ascii, IsCharBoundary-from_take}

pub after_first : (text bytes : List ℕ) → bytes ≡ text → IsUtf8 text → 0 < length bytes → get_or bytes 0 0 < 128 → IsCharBoundary text 1
after_first text bytes same utf8 some low = IsCharBoundary-after_ascii text 0 utf8 (rw (← same) some) (rw (← same) low)

pub after_prefix : (p : ℕ → Bool) (bs : List ℕ) (n : ℕ) → ((b : ℕ) → p b ≡ true → b < 128) → IsUtf8 bs → n ≡ prefix_len p bs → IsCharBoundary bs n
after_prefix p bs zero low utf8 e = IsCharBoundary-start bs utf8
after_prefix p bs (suc k) low utf8 e =
    let within : k < prefix_len p bs = omega (arith, e) in
    let passes : get_or bs k 0 < 128 = low (get_or bs k 0) (prefix_len_passes p bs k 0 within) in
    subst (IsCharBoundary bs) (add-one k) (IsCharBoundary-after_ascii bs k utf8 (omega (arith, prefix_len-le-length p bs)) passes)

pub before_stop : (p : ℕ → Bool) (bs : List ℕ) (n : ℕ) → ((b : ℕ) → p b ≡ false → b < 128) → n ≡ prefix_len p bs → IsCharBoundary bs n
before_stop p bs n low e =
    let stops : n < length bs → get_or bs n 0 < 128 = λ lt. rw e (low (get_or bs (prefix_len p bs) 0) (prefix_len_stops p bs 0 (rw (← e) lt))) in
    (rw e (prefix_len-le-length p bs), λ lt. (IsCharBoundary-before_ascii bs n lt (stops lt)).1 lt)

pub after_ascii_part : (bs front rest : List ℕ) → bs ≡ front ++ rest → IsAscii front → IsUtf8 bs → IsCharBoundary bs (length front)
after_ascii_part bs front rest is ascii utf8 =
    let part : take (length front) bs ≡ front = ap (take (length front)) is ∙ take_at front rest (length front) refl in
    IsCharBoundary-from_take bs (length front) utf8 (omega (arith, ap (λ (xs : List ℕ). length xs) is, length-append front rest)) (subst IsUtf8 (sym part) (IsUtf8-from_ascii front ascii))

pub word_is_ascii : (b : ℕ) → is_word_byte b ≡ true → b < 128
word_is_ascii b e = grind (arith, nat_tests)

pub digit_is_ascii : (b : ℕ) → is_digit b ≡ true → b < 128
digit_is_ascii b e = grind (arith, nat_tests)

pub blank_is_ascii : (b : ℕ) → is_blank b ≡ true → b < 128
blank_is_ascii b e = grind (arith, nat_tests)

pub line_end_is_ascii : (b : ℕ) → not (b == 10) ≡ false → b < 128
line_end_is_ascii b e = grind (arith, nat_tests)
