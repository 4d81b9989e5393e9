-- How the reader goes over a text, step by step; what it means is HasTokens of the model.
use Rattle.std.specs.Prelude.{◌≡◌, ℕ, Bool, true, false, not, ◌&&◌, ◌==◌, if◌then◌else◌, List, [], ◌∷◌, map, take, drop, Option, Some, None, Result, Ok, Err}
use Rattle.std.specs.Char.{to_ascii_lowercase}
use Rattle.std.specs.List.{prefix_len}
use denote.Ref.{Bor}
use Rattle.cq_values.specs.Texts.{is_text}
use Rattle.cq_sql_language.specs.declared.token.Keyword.{Keyword}
use Rattle.cq_sql_language.specs.declared.token.Symbol.{Symbol}
use Rattle.cq_sql_language.specs.declared.token.Symbol.TheVariants as symbols
use Rattle.cq_sql_language.specs.declared.token.Token.{Token}
use Rattle.cq_sql_language.specs.declared.token.Token.TheVariants as tokens
use Rattle.cq_sql_language.specs.Characters.{is_blank, is_letter, is_digit, is_word_byte, is_quote, is_dash, begins}
use Rattle.cq_sql_language.specs.Tokens.{word_token, number_token}
use Rattle.cq_sql_tokens.specs.declared.fault.TokenFault.{TokenFault}
use Rattle.cq_sql_tokens.specs.declared.fault.TokenFault.TheVariants.{Memory, Syntax}

-- goes on where there was something to read, and fails where not
infixl 10 ◌>>=◌
abbrev pub ◌>>=◌ : {A B : Type 0} → Option A → (A → Option B) → Option B
(Some x) >>= f = f x
None >>= f = None

-- what was returned is what there is to read, unless memory ran out
abbrev pub Gives : {X Y : Type 0} → (X → Y) → Result X TokenFault → Option Y → Type 0
Gives view (Ok x) read = read ≡ Some (view x)
Gives view (Err Memory) read = Unit {0}
Gives view (Err Syntax) read = read ≡ None

-- the first keyword of a table that the word is, in lower case
abbrev pub found_in : List (Keyword × Bor (List ℕ)) → List ℕ → Option Keyword
found_in [] word = None
found_in (entry ∷ entries) word = if is_text (map to_ascii_lowercase entry.1.now) (map to_ascii_lowercase word) then Some entry.0 else found_in entries word

-- the longest word in front as a token, and what follows
abbrev pub word_at : List ℕ → Option (Token × List ℕ)
word_at text = Some (word_token (take (prefix_len is_word_byte text) text), drop (prefix_len is_word_byte text) text)

-- the longest number in front as a token, unless a word goes on behind it
unfoldable pub number_at : List ℕ → Option (Token × List ℕ)
number_at text =
    if begins is_word_byte (drop (prefix_len is_digit text) text) then None
    else Some (number_token (take (prefix_len is_digit text) text), drop (prefix_len is_digit text) text)

-- what was read, with this byte before its content
abbrev pub onto : ℕ → Option (List ℕ × List ℕ) → Option (List ℕ × List ℕ)
onto b read = read >>= λ r. Some (b ∷ r.0, r.1)

-- the content of a quoted text and what follows, right behind a quote or not
abbrev pub content_at : Bool → List ℕ → Option (List ℕ × List ℕ)
content_at false [] = None
content_at true [] = Some ([], [])
content_at false (b ∷ bs) = if is_quote b then content_at true bs else onto b (content_at false bs)
content_at true (b ∷ bs) = if is_quote b then onto b (content_at false bs) else Some ([], b ∷ bs)

-- the quoted text in front as a token, where its first quote is gone
abbrev pub quoted_at : List ℕ → Option (Token × List ℕ)
quoted_at text = content_at false text >>= λ r. Some (tokens.Text r.0, r.1)

-- the symbol that a less-than sign begins, and its length
abbrev pub less_at : List ℕ → Symbol × ℕ
less_at [] = (symbols.Less, 1)
less_at (b ∷ bs) = if b == 62 then (symbols.NotEqual, 2) else if b == 61 then (symbols.LessOrEqual, 2) else (symbols.Less, 1)

-- the symbol that a greater-than sign begins, and its length
abbrev pub greater_at : List ℕ → Symbol × ℕ
greater_at [] = (symbols.Greater, 1)
greater_at (b ∷ bs) = if b == 61 then (symbols.GreaterOrEqual, 2) else (symbols.Greater, 1)

-- the longest symbol in front, and how many bytes it has
unfoldable pub symbol_at : List ℕ → Option (Symbol × ℕ)
symbol_at [] = None
symbol_at (b ∷ bs) =
    if b == 40 then Some (symbols.Open, 1)
    else if b == 41 then Some (symbols.Close, 1)
    else if b == 44 then Some (symbols.Comma, 1)
    else if b == 46 then Some (symbols.Dot, 1)
    else if b == 61 then Some (symbols.Equal, 1)
    else if b == 60 then Some (less_at bs)
    else if b == 62 then Some (greater_at bs)
    else if b == 43 then Some (symbols.Plus, 1)
    else if b == 45 then Some (symbols.Minus, 1)
    else if b == 42 then Some (symbols.Star, 1)
    else None

-- the longest symbol in front as a token, and what follows
abbrev pub sign_at : List ℕ → Option (Token × List ℕ)
sign_at text = symbol_at text >>= λ s. Some (tokens.Symbol s.0, drop s.1 text)

-- what follows a blank or a comment in front, if one is there
unfoldable pub gap_at : List ℕ → Option (List ℕ)
gap_at [] = None
gap_at (b ∷ bs) =
    if is_blank b then Some bs
    else if is_dash b && begins is_dash bs then Some (drop (prefix_len (λ c. not (c == 10)) (b ∷ bs)) (b ∷ bs))
    else None

-- what follows a space in front, or the text where none is there
abbrev pub past_space : List ℕ → List ℕ
past_space [] = []
past_space (b ∷ bs) = if b == 32 then bs else b ∷ bs

-- the token in front, where no blank and no comment is there
unfoldable pub token_at : List ℕ → Option (Token × List ℕ)
token_at [] = None
token_at (b ∷ bs) =
    if is_letter b then word_at (b ∷ bs)
    else if is_digit b then number_at (b ∷ bs)
    else if is_quote b then quoted_at bs
    else sign_at (b ∷ bs)
