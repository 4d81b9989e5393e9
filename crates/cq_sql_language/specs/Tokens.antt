-- The tokens of a text, and the limits of the reader (docs/LANGUAGE.md, Scripts and tokens).
use Rattle.std.specs.Prelude.{◌≡◌, ℕ, ◌+◌, ◌-◌, ◌*◌, ◌^◌, min, nat_lt, Bool, false, ◌||◌, List, [], ◌∷◌, map, fold, length, Option, Some, None}
use Rattle.std.specs.Char.{to_ascii_lowercase}
use Rattle.cq_sql_language.specs.declared.token.Keyword.{Keyword}
use Rattle.cq_sql_language.specs.declared.token.Symbol.TheVariants as symbols
use Rattle.cq_sql_language.specs.declared.token.Token.{Token}
use Rattle.cq_sql_language.specs.declared.token.Token.TheVariants as tokens
use Rattle.cq_sql_language.specs.Keywords.{keyword_of}
use Rattle.cq_sql_language.specs.Lexemes.{Lexeme, blank, comment, word, digits, quoted, symbol, AreLexemesOf}

-- the keyword, or the name where there is none
abbrev pub keyword_or_name : List ℕ → Option Keyword → Token
keyword_or_name w (Some k) = tokens.Keyword k
keyword_or_name w None = tokens.Name w

-- a word is folded to lower case; what is no keyword is a name
abbrev pub word_token : List ℕ → Token
word_token w = keyword_or_name (map to_ascii_lowercase w) (keyword_of (map to_ascii_lowercase w))

-- the number that digits spell
abbrev pub decimal : List ℕ → ℕ
decimal ds = fold (λ n b. 10 * n + (b - 48)) 0 ds

-- the greatest number stands for every number from it on
abbrev pub number_token : List ℕ → Token
number_token ds = tokens.Number (min (decimal ds) (2 ^ 128 - 1))

-- blanks and comments are nothing
abbrev pub tokens_of : List Lexeme → List Token
tokens_of [] = []
tokens_of (blank b ∷ ls) = tokens_of ls
tokens_of (comment c ∷ ls) = tokens_of ls
tokens_of (word b bs ∷ ls) = word_token (b ∷ bs) ∷ tokens_of ls
tokens_of (digits b bs ∷ ls) = number_token (b ∷ bs) ∷ tokens_of ls
tokens_of (quoted q ∷ ls) = tokens.Text q ∷ tokens_of ls
tokens_of (symbol s ∷ ls) = tokens.Symbol s ∷ tokens_of ls

-- the text is cut into lexemes that make these tokens
pub record HasTokens (text : List ℕ) (ts : List Token) : Type 0 where
  pub lexemes : List Lexeme
  pub cut : AreLexemesOf lexemes text
  pub made : tokens_of lexemes ≡ ts

-- how many parentheses the token opens
abbrev pub opens : Token → ℕ
opens (tokens.Symbol symbols.Open) = 1
opens t = 0

-- how many parentheses the token closes
abbrev pub closes : Token → ℕ
closes (tokens.Symbol symbols.Close) = 1
closes t = 0

-- a name has more than 63 bytes
abbrev pub is_long_name : Token → Bool
is_long_name (tokens.Name n) = nat_lt 63 (length n)
is_long_name t = false

-- of these tokens, before which so many parentheses were opened and closed: a name has more than 63 bytes, or a
-- parenthesis is opened while 64 are open
abbrev pub goes_past : ℕ → ℕ → List Token → Bool
goes_past opened closed [] = false
goes_past opened closed (t ∷ ts) = is_long_name t || nat_lt (closed + closes t + 64) (opened + opens t) || goes_past (opened + opens t) (closed + closes t) ts

-- a name has more than 63 bytes, or more than 64 parentheses are open at once
unfoldable pub is_past_limits : List Token → Bool
is_past_limits ts = goes_past 0 0 ts
