-- What the reader finds in front of a text is spelled there.
use Rattle.std.proofs.Common.{◌≡◌, ℕ, suc, ◌<◌, ◌==◌, ◌&&◌, not, Bool, true, false, List, [], ◌∷◌, ◌++◌, length, take, drop, Option, Some, None, refl, sym, ap, ap₂, ◌∙◌, append_assoc, arith}
use Rattle.std.specs.List.{prefix_len}
use Rattle.std.proofs.lemmas.List.{take-append-drop, length-append}
use Rattle.std.proofs.lemmas.Bool.Decides.{nat_tests}
use Rattle.cq_sql_language.specs.declared.token.Symbol.{Symbol}
use Rattle.cq_sql_language.specs.declared.token.Token.{Token}
use Rattle.cq_sql_language.specs.declared.token.Token.TheVariants as tokens
use Rattle.cq_sql_language.specs.Characters.{is_blank, is_letter, is_digit, is_word_byte, is_quote, is_dash, begins, is_end_of_line, doubled}
use Rattle.cq_sql_language.specs.Lexemes.{Lexeme, blank, comment, word, digits, quoted, symbol, symbol_spelling, spelling, lengthens, Stands}
use Rattle.cq_sql_language.specs.Tokens.{word_token, number_token}
use Rattle.cq_sql_tokens.specs.Lexing.{◌>>=◌, content_at, quoted_at, word_at, number_at, symbol_at, sign_at, gap_at, token_at}
use Rattle.cq_sql_tokens.proofs.Decisions.{either}
use Rattle.cq_sql_tokens.proofs.Prefixes.{prefix_passes, prefix_stops, prefix_cons}
use Rattle.cq_sql_tokens.proofs.Contents.{content_only}
use Rattle.cq_sql_tokens.proofs.Spelled.{told, Found, found, letter_goes_on}
use Rattle.cq_sql_tokens.proofs.Signs.{sign_only, spelling_is_ascii, IsSign}
use Rattle.std.proofs.lemmas.Bool.{and_parts, eqb-true, not-false}
use Rattle.std.proofs.lemmas.Option.{same_Some}

-- a lexeme that stands in front and makes this token, or none
pub record Fronts (text : List ℕ) (t : Option Token) (rest : List ℕ) : Type 0 where
  pub lexeme : Lexeme
  pub cut : text ≡ spelling lexeme ++ rest
  pub stands : Stands lexeme rest
  pub makes : told lexeme ≡ t

token_of : Token → Found → Token
token_of d (Some r) = r.0
token_of d None = d

rest_of : Found → List ℕ
rest_of (Some r) = r.1
rest_of None = []

same_found : (t u : Token) (r s : List ℕ) → found t r ≡ found u s → (t ≡ u) × (r ≡ s)
unfolding token_of rest_of
same_found t u r s e = (ap (token_of t) e, ap rest_of e)

line_ends : (rest : List ℕ) → begins (λ c. not (c == 10)) rest ≡ false → is_end_of_line rest ≡ true
line_ends [] e = refl
line_ends (b ∷ bs) e = not-false (b == 10) e

dash_goes_on : (b : ℕ) → is_dash b ≡ true → not (b == 10) ≡ true
dash_goes_on b e = grind (arith, nat_tests)

comment_only : (b : ℕ) (bs rest : List ℕ) → (is_dash b && begins is_dash bs) ≡ true → drop (prefix_len (λ c. not (c == 10)) (b ∷ bs)) (b ∷ bs) ≡ rest → Fronts (b ∷ bs) None rest
comment_only b [] rest here is = let dashes = and_parts (is_dash b) false here in absurd (cc dashes.1)
comment_only b (c ∷ cs) rest here is =
    let dashes = and_parts (is_dash b) (is_dash c) here in
    let goes : ℕ → Bool = λ x. not (x == 10) in
    let len = prefix_cons goes b (c ∷ cs) (dash_goes_on b dashes.0) ∙ ap suc (prefix_cons goes c cs (dash_goes_on c dashes.1)) in
    let after : drop (prefix_len goes cs) cs ≡ rest = ap (λ (n : ℕ). drop n (b ∷ c ∷ cs)) (sym len) ∙ is in
    record {
      lexeme = comment (take (prefix_len goes cs) cs);
      cut = ap₂ (λ (x y : ℕ). x ∷ y ∷ cs) (eqb-true b 45 dashes.0) (eqb-true c 45 dashes.1) ∙ ap (λ (xs : List ℕ). 45 ∷ 45 ∷ xs) (sym (take-append-drop (prefix_len goes cs) cs) ∙ ap (λ (xs : List ℕ). take (prefix_len goes cs) cs ++ xs) after);
      stands = (prefix_passes goes cs, line_ends rest (ap (begins goes) (sym after) ∙ prefix_stops goes cs));
      makes = refl;
    }

pub gap_only : (text rest : List ℕ) → gap_at text ≡ Some rest → Fronts text None rest
unfolding gap_at
gap_only [] rest e = absurd cc
gap_only (b ∷ bs) rest e =
    either (is_blank b) (Some bs) _ (Some rest) e
    (λ here is. record { lexeme = blank b; cut = ap (λ (xs : List ℕ). b ∷ xs) (same_Some bs rest is); stands = here; makes = refl })
    (λ _ more. either (is_dash b && begins is_dash bs) (Some (drop (prefix_len (λ c. not (c == 10)) (b ∷ bs)) (b ∷ bs))) None (Some rest) more
    (λ here is. comment_only b bs rest here (same_Some _ rest is))
    (λ _ is. absurd cc))

-- the cut behind the longest part that passes, where the first byte does
prefix_front : (p : ℕ → Bool) (b : ℕ) (bs rest : List ℕ) → p b ≡ true → drop (prefix_len p (b ∷ bs)) (b ∷ bs) ≡ rest
    → (take (prefix_len p (b ∷ bs)) (b ∷ bs) ≡ b ∷ take (prefix_len p bs) bs) × (b ∷ bs ≡ (b ∷ take (prefix_len p bs) bs) ++ rest)
prefix_front p b bs rest e is =
    let len = prefix_cons p b bs e in
    let after : drop (prefix_len p bs) bs ≡ rest = ap (λ (n : ℕ). drop n (b ∷ bs)) (sym len) ∙ is in
    (ap (λ (n : ℕ). take n (b ∷ bs)) len, ap (λ (xs : List ℕ). b ∷ xs) (sym (take-append-drop (prefix_len p bs) bs) ∙ ap (λ (xs : List ℕ). take (prefix_len p bs) bs ++ xs) after))

word_only : (b : ℕ) (bs : List ℕ) (t : Token) (rest : List ℕ) → is_letter b ≡ true → word_at (b ∷ bs) ≡ found t rest → Fronts (b ∷ bs) (Some t) rest
word_only b bs t rest here is =
    let same = same_found _ t _ rest is in
    let front = prefix_front is_word_byte b bs rest (letter_goes_on b here) same.1 in
    record {
      lexeme = word b (take (prefix_len is_word_byte bs) bs);
      cut = front.1;
      stands = (here, prefix_passes is_word_byte bs, ap not (ap (begins is_word_byte) (sym same.1) ∙ prefix_stops is_word_byte (b ∷ bs)));
      makes = ap (λ (u : Token). Some u) (ap word_token (sym front.0) ∙ same.0);
    }

number_only : (b : ℕ) (bs : List ℕ) (t : Token) (rest : List ℕ) → is_digit b ≡ true → number_at (b ∷ bs) ≡ found t rest → Fronts (b ∷ bs) (Some t) rest
unfolding number_at
number_only b bs t rest here is =
    either (begins is_word_byte (drop (prefix_len is_digit (b ∷ bs)) (b ∷ bs))) None _ (found t rest) is (λ _ none. absurd cc)
    (λ stops read.
    let same = same_found _ t _ rest read in
    let front = prefix_front is_digit b bs rest here same.1 in
    record {
      lexeme = digits b (take (prefix_len is_digit bs) bs);
      cut = front.1;
      stands = (here, prefix_passes is_digit bs, ap not (ap (begins is_word_byte) (sym same.1) ∙ stops));
      makes = ap (λ (u : Token). Some u) (ap number_token (sym front.0) ∙ same.0);
    })

abbrev content : List ℕ → List ℕ → Option (List ℕ × List ℕ)
content q rest = Some (q, rest)

from_content : (read : Option (List ℕ × List ℕ)) (t : Token) (rest : List ℕ) → (read >>= λ r. Some (tokens.Text r.0, r.1)) ≡ found t rest → (q : List ℕ) × (read ≡ content q rest) × (tokens.Text q ≡ t)
from_content (Some r) t rest e = let same = same_found (tokens.Text r.0) t r.1 rest e in (r.0, ap (content r.0) same.1, same.0)
from_content None t rest e = absurd cc

quoted_only : (b : ℕ) (bs : List ℕ) (t : Token) (rest : List ℕ) → is_quote b ≡ true → quoted_at bs ≡ found t rest → Fronts (b ∷ bs) (Some t) rest
quoted_only b bs t rest here is =
    let read = from_content (content_at false bs) t rest is in
    let cut = content_only bs read.0 rest read.1 in
    record {
      lexeme = quoted read.0;
      cut = ap₂ (λ (x : ℕ) (xs : List ℕ). x ∷ xs) (eqb-true b 39 here) (cut.0 ∙ sym (append_assoc (doubled read.0) (39 ∷ []) rest));
      stands = ap not cut.1;
      makes = ap (λ (u : Token). Some u) read.2;
    }

abbrev sign : Symbol → ℕ → Option (Symbol × ℕ)
sign s n = Some (s, n)

from_sign : (read : Option (Symbol × ℕ)) (text : List ℕ) (t : Token) (rest : List ℕ) → (read >>= λ s. Some (tokens.Symbol s.0, drop s.1 text)) ≡ found t rest
    → (s : Symbol) × (n : ℕ) × (read ≡ sign s n) × (tokens.Symbol s ≡ t) × (drop n text ≡ rest)
from_sign (Some r) text t rest e = let same = same_found (tokens.Symbol r.0) t (drop r.1 text) rest e in (r.0, r.1, refl, same.0, same.1)
from_sign None text t rest e = absurd cc

symbol_only : (text : List ℕ) (t : Token) (rest : List ℕ) → gap_at text ≡ None → sign_at text ≡ found t rest → Fronts text (Some t) rest
symbol_only text t rest none is =
    let read = from_sign (symbol_at text) text t rest is in
    let here : IsSign text read.0 read.1 = sign_only text read.0 read.1 read.2 in
    record {
      lexeme = symbol read.0;
      cut = here.spelling ∙ ap (λ (xs : List ℕ). symbol_spelling read.0 ++ xs) read.4;
      stands = ap not (ap (begins (lengthens read.0)) (sym read.4) ∙ here.ends none);
      makes = ap (λ (u : Token). Some u) read.3;
    }

pub token_only : (text : List ℕ) (t : Token) (rest : List ℕ) → gap_at text ≡ None → token_at text ≡ Some (t, rest) → Fronts text (Some t) rest
unfolding token_at
token_only [] t rest none e = absurd cc
token_only (b ∷ bs) t rest none e =
    either (is_letter b) (word_at (b ∷ bs)) _ (found t rest) e (λ here is. word_only b bs t rest here is)
    (λ _ e1. either (is_digit b) (number_at (b ∷ bs)) _ (found t rest) e1 (λ here is. number_only b bs t rest here is)
    (λ _ e2. either (is_quote b) (quoted_at bs) (sign_at (b ∷ bs)) (found t rest) e2 (λ here is. quoted_only b bs t rest here is)
    (λ _ is. symbol_only (b ∷ bs) t rest none is)))

-- a lexeme is not empty
spelling_is_some : (l : Lexeme) → 0 < length (spelling l)
spelling_is_some (blank b) = omega arith
spelling_is_some (comment c) = omega arith
spelling_is_some (word b bs) = omega arith
spelling_is_some (digits b bs) = omega arith
spelling_is_some (quoted q) = omega arith
spelling_is_some (symbol s) = (spelling_is_ascii s).1

-- so what follows is shorter
pub front_shrinks : (text : List ℕ) (t : Option Token) (rest : List ℕ) → Fronts text t rest → length rest < length text
front_shrinks text t rest h = omega (arith, ap (λ (xs : List ℕ). length xs) h.cut, length-append (spelling h.lexeme) rest, spelling_is_some h.lexeme)
