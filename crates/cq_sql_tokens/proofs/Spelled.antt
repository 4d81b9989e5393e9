-- What is spelled in front of a text is what the reader finds there.
use Rattle.std.proofs.Common.{◌≡◌, ℕ, ◌==◌, ◌&&◌, not, true, false, List, [], ◌∷◌, ◌++◌, length, take, drop, Option, Some, None, refl, ap, ap₂, ◌∙◌, append_assoc, arith}
use Rattle.std.specs.List.{prefix_len, list_all}
use Rattle.std.proofs.lemmas.List.{drop_at}
use Rattle.std.proofs.lemmas.Bool.Decides.{nat_tests}
use Rattle.cq_sql_language.specs.declared.token.Symbol.{Symbol}
use Rattle.cq_sql_language.specs.declared.token.Symbol.TheVariants as symbols
use Rattle.cq_sql_language.specs.declared.token.Token.{Token}
use Rattle.cq_sql_language.specs.declared.token.Token.TheVariants as tokens
use Rattle.cq_sql_language.specs.Characters.{is_blank, is_letter, is_digit, is_word_byte, is_quote, is_dash, begins, is_end_of_line, doubled}
use Rattle.cq_sql_language.specs.Lexemes.{Lexeme, blank, comment, word, digits, quoted, symbol, symbol_spelling, spelling, lengthens, Stands}
use Rattle.cq_sql_language.specs.Tokens.{word_token, number_token}
use Rattle.cq_sql_tokens.specs.Lexing.{◌>>=◌, content_at, word_at, number_at, sign_at, gap_at, token_at}
use Rattle.cq_sql_tokens.proofs.Prefixes.{prefix_cut}
use Rattle.cq_sql_tokens.proofs.Contents.{content_found, is_quoted}
use Rattle.cq_sql_tokens.proofs.Signs.{sign_found}
use Rattle.std.proofs.lemmas.Bool.{and_left, cond-false, cond-true, not-true}

-- the token that a lexeme makes, if it makes one
abbrev pub told : Lexeme → Option Token
told (blank b) = None
told (comment c) = None
told (word b bs) = Some (word_token (b ∷ bs))
told (digits b bs) = Some (number_token (b ∷ bs))
told (quoted q) = Some (tokens.Text q)
told (symbol s) = Some (tokens.Symbol s)

abbrev pub Read : Type 0
Read = Option (Option Token × List ℕ)

abbrev pub step_at : Option (List ℕ) → Option (Token × List ℕ) → Read
step_at (Some rest) token = Some (None, rest)
step_at None token = token >>= λ r. Some (Some r.0, r.1)

-- what the reader finds in front, a token or none, and what follows
abbrev pub front_at : List ℕ → Read
front_at text = step_at (gap_at text) (token_at text)

pub at_gap : (text rest : List ℕ) → gap_at text ≡ Some rest → front_at text ≡ Some (None, rest)
at_gap text rest e = rw e refl

pub at_token : (text : List ℕ) (t : Token) (rest : List ℕ) → gap_at text ≡ None → token_at text ≡ Some (t, rest) → front_at text ≡ Some (Some t, rest)
at_token text t rest e f = rw (e, f) refl

pub at_none : (text : List ℕ) → gap_at text ≡ None → token_at text ≡ None → front_at text ≡ None
at_none text e f = rw (e, f) refl

-- what the reader does by the first byte

no_gap : (b : ℕ) (bs : List ℕ) → is_blank b ≡ false → is_dash b ≡ false → gap_at (b ∷ bs) ≡ None
unfolding gap_at
no_gap b bs e f = cond-false (is_blank b) _ _ e ∙ cond-false (is_dash b && begins is_dash bs) _ _ (and_left (is_dash b) (begins is_dash bs) f)

token_word : (b : ℕ) (bs : List ℕ) → is_letter b ≡ true → token_at (b ∷ bs) ≡ word_at (b ∷ bs)
unfolding token_at
token_word b bs e = cond-true (is_letter b) _ _ e

token_number : (b : ℕ) (bs : List ℕ) → is_letter b ≡ false → is_digit b ≡ true → token_at (b ∷ bs) ≡ number_at (b ∷ bs)
unfolding token_at
token_number b bs e f = cond-false (is_letter b) _ _ e ∙ cond-true (is_digit b) _ _ f

number_here : (text : List ℕ) → begins is_word_byte (drop (prefix_len is_digit text) text) ≡ false
    → number_at text ≡ Some (number_token (take (prefix_len is_digit text) text), drop (prefix_len is_digit text) text)
unfolding number_at
number_here text e = cond-false (begins is_word_byte (drop (prefix_len is_digit text) text)) None _ e

-- a lexeme that stands in front is what the reader finds

abbrev pub Found : Type 0
Found = Option (Token × List ℕ)

abbrev pub found : Token → List ℕ → Found
found t rest = Some (t, rest)

letter_no_blank : (b : ℕ) → is_letter b ≡ true → (is_blank b ≡ false) × (is_dash b ≡ false)
letter_no_blank b e = (grind (arith, nat_tests), grind (arith, nat_tests))

digit_no_blank : (b : ℕ) → is_digit b ≡ true → (is_blank b ≡ false) × (is_dash b ≡ false) × (is_letter b ≡ false)
digit_no_blank b e = (grind (arith, nat_tests), grind (arith, nat_tests), grind (arith, nat_tests))

pub letter_goes_on : (b : ℕ) → is_letter b ≡ true → is_word_byte b ≡ true
letter_goes_on b e = rw e refl

blank_found : (b : ℕ) (rest : List ℕ) → is_blank b ≡ true → front_at (b ∷ rest) ≡ Some (None, rest)
unfolding gap_at
blank_found b rest e = at_gap (b ∷ rest) rest (cond-true (is_blank b) _ _ e)

no_line_end : (rest : List ℕ) → is_end_of_line rest ≡ true → begins (λ c. not (c == 10)) rest ≡ false
no_line_end [] e = refl
no_line_end (b ∷ bs) e = ap not e

comment_found : (c rest : List ℕ) → list_all (λ b. not (b == 10)) c ≡ true → is_end_of_line rest ≡ true → front_at ((45 ∷ 45 ∷ c) ++ rest) ≡ Some (None, rest)
unfolding gap_at
comment_found c rest all ends =
    let cut = prefix_cut (λ b. not (b == 10)) (45 ∷ 45 ∷ c) rest all (no_line_end rest ends) in
    at_gap ((45 ∷ 45 ∷ c) ++ rest) rest (ap (λ (xs : List ℕ). Some xs) cut.1)

word_found : (b : ℕ) (bs rest : List ℕ) → is_letter b ≡ true → list_all is_word_byte bs ≡ true → begins is_word_byte rest ≡ false → front_at ((b ∷ bs) ++ rest) ≡ Some (Some (word_token (b ∷ bs)), rest)
word_found b bs rest e all stops =
    let passes : list_all is_word_byte (b ∷ bs) ≡ true = rw (letter_goes_on b e) all in
    let cut = prefix_cut is_word_byte (b ∷ bs) rest passes stops in
    let other = letter_no_blank b e in
    at_token ((b ∷ bs) ++ rest) (word_token (b ∷ bs)) rest (no_gap b (bs ++ rest) other.0 other.1)
    (token_word b (bs ++ rest) e ∙ ap₂ (λ (w r : List ℕ). found (word_token w) r) cut.0 cut.1)

no_digit : (rest : List ℕ) → begins is_word_byte rest ≡ false → begins is_digit rest ≡ false
no_digit [] e = refl
no_digit (b ∷ bs) e = grind (arith, nat_tests)

number_found : (b : ℕ) (bs rest : List ℕ) → is_digit b ≡ true → list_all is_digit bs ≡ true → begins is_word_byte rest ≡ false → front_at ((b ∷ bs) ++ rest) ≡ Some (Some (number_token (b ∷ bs)), rest)
number_found b bs rest e all stops =
    let passes : list_all is_digit (b ∷ bs) ≡ true = rw e all in
    let cut = prefix_cut is_digit (b ∷ bs) rest passes (no_digit rest stops) in
    let other = digit_no_blank b e in
    at_token ((b ∷ bs) ++ rest) (number_token (b ∷ bs)) rest (no_gap b (bs ++ rest) other.0 other.1)
    (token_number b (bs ++ rest) other.2 e ∙ number_here ((b ∷ bs) ++ rest) (ap (begins is_word_byte) cut.1 ∙ stops) ∙ ap₂ (λ (w r : List ℕ). found (number_token w) r) cut.0 cut.1)

quoted_found : (q rest : List ℕ) → begins is_quote rest ≡ false → front_at ((39 ∷ doubled q ++ 39 ∷ []) ++ rest) ≡ Some (Some (tokens.Text q), rest)
unfolding gap_at token_at
quoted_found q rest stops =
    let read = ap (content_at false) (append_assoc (doubled q) (39 ∷ []) rest) ∙ content_found q rest stops in
    at_token ((39 ∷ doubled q ++ 39 ∷ []) ++ rest) (tokens.Text q) rest refl (is_quoted ((doubled q ++ 39 ∷ []) ++ rest) q q rest read refl)

-- a symbol is no blank, no comment, no word, no number and no quoted text
sign_first : (s : Symbol) (rest : List ℕ) → begins (lengthens s) rest ≡ false → (gap_at (symbol_spelling s ++ rest) ≡ None) × (token_at (symbol_spelling s ++ rest) ≡ sign_at (symbol_spelling s ++ rest))
unfolding gap_at token_at
sign_first symbols.Open rest e = (refl, refl)
sign_first symbols.Close rest e = (refl, refl)
sign_first symbols.Comma rest e = (refl, refl)
sign_first symbols.Dot rest e = (refl, refl)
sign_first symbols.Equal rest e = (refl, refl)
sign_first symbols.NotEqual rest e = (refl, refl)
sign_first symbols.Less rest e = (refl, refl)
sign_first symbols.LessOrEqual rest e = (refl, refl)
sign_first symbols.Greater rest e = (refl, refl)
sign_first symbols.GreaterOrEqual rest e = (refl, refl)
sign_first symbols.Plus rest e = (refl, refl)
sign_first symbols.Minus rest e = (cond-false (begins is_dash rest) _ None e, refl)
sign_first symbols.Star rest e = (refl, refl)

symbol_found : (s : Symbol) (rest : List ℕ) → begins (lengthens s) rest ≡ false → front_at (symbol_spelling s ++ rest) ≡ Some (Some (tokens.Symbol s), rest)
symbol_found s rest e =
    let first = sign_first s rest e in
    let read : sign_at (symbol_spelling s ++ rest) ≡ Some (tokens.Symbol s, rest) = rw (sign_found s rest e, drop_at (symbol_spelling s) rest (length (symbol_spelling s)) refl) refl in
    at_token (symbol_spelling s ++ rest) (tokens.Symbol s) rest first.0 (first.1 ∙ read)

pub front_found : (l : Lexeme) (rest : List ℕ) → Stands l rest → front_at (spelling l ++ rest) ≡ Some (told l, rest)
front_found (blank b) rest h = blank_found b rest h
front_found (comment c) rest h = comment_found c rest h.0 h.1
front_found (word b bs) rest h = word_found b bs rest h.0 h.1 (not-true (begins is_word_byte rest) h.2)
front_found (digits b bs) rest h = number_found b bs rest h.0 h.1 (not-true (begins is_word_byte rest) h.2)
front_found (quoted q) rest h = quoted_found q rest (not-true (begins is_quote rest) h)
front_found (symbol s) rest h = symbol_found s rest (not-true (begins (lengthens s) rest) h)
