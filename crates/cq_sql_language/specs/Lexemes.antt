-- A text is cut into blanks, comments, words, numbers, quoted texts and symbols, each as long as it can be
-- (ISO 9075-2, 5.2; docs/LANGUAGE.md, Scripts and tokens).
use Rattle.std.specs.Prelude.{◌≡◌, ℕ, ◌==◌, Bool, false, not, ◌||◌, IsTrue, List, [], ◌∷◌, ◌++◌}
use Rattle.std.specs.List.{list_all}
use Rattle.cq_sql_language.specs.declared.token.Symbol.{Symbol}
use Rattle.cq_sql_language.specs.declared.token.Symbol.TheVariants as symbols
use Rattle.cq_sql_language.specs.Characters.{is_blank, is_letter, is_digit, is_word_byte, is_quote, is_dash, begins, is_end_of_line, doubled}

-- what a text is cut into
pub data Lexeme : Type 0 where
  blank : ℕ → Lexeme
  comment : List ℕ → Lexeme
  word : ℕ → List ℕ → Lexeme
  digits : ℕ → List ℕ → Lexeme
  quoted : List ℕ → Lexeme
  symbol : Symbol → Lexeme

abbrev pub symbol_spelling : Symbol → List ℕ
symbol_spelling symbols.Open = 40 ∷ []
symbol_spelling symbols.Close = 41 ∷ []
symbol_spelling symbols.Comma = 44 ∷ []
symbol_spelling symbols.Dot = 46 ∷ []
symbol_spelling symbols.Equal = 61 ∷ []
symbol_spelling symbols.NotEqual = 60 ∷ 62 ∷ []
symbol_spelling symbols.Less = 60 ∷ []
symbol_spelling symbols.LessOrEqual = 60 ∷ 61 ∷ []
symbol_spelling symbols.Greater = 62 ∷ []
symbol_spelling symbols.GreaterOrEqual = 62 ∷ 61 ∷ []
symbol_spelling symbols.Plus = 43 ∷ []
symbol_spelling symbols.Minus = 45 ∷ []
symbol_spelling symbols.Star = 42 ∷ []

-- how it is written
abbrev pub spelling : Lexeme → List ℕ
spelling (blank b) = b ∷ []
spelling (comment c) = 45 ∷ 45 ∷ c
spelling (word b bs) = b ∷ bs
spelling (digits b bs) = b ∷ bs
spelling (quoted q) = 39 ∷ doubled q ++ 39 ∷ []
spelling (symbol s) = symbol_spelling s

-- the character that would make a longer symbol, or a comment
abbrev pub lengthens : Symbol → ℕ → Bool
lengthens symbols.Less b = (b == 62) || (b == 61)
lengthens symbols.Greater b = b == 61
lengthens symbols.Minus b = is_dash b
lengthens s b = false

-- it is one, and the longest that begins there: what stands behind it does not go on with it. Digits before a letter are
-- no number, and so no text with them has tokens
abbrev pub Stands : Lexeme → List ℕ → Type 0
Stands (blank b) rest = IsTrue (is_blank b)
Stands (comment c) rest = IsTrue (list_all (λ b. not (b == 10)) c) × IsTrue (is_end_of_line rest)
Stands (word b bs) rest = IsTrue (is_letter b) × IsTrue (list_all is_word_byte bs) × IsTrue (not (begins is_word_byte rest))
Stands (digits b bs) rest = IsTrue (is_digit b) × IsTrue (list_all is_digit bs) × IsTrue (not (begins is_word_byte rest))
Stands (quoted q) rest = IsTrue (not (begins is_quote rest))
Stands (symbol s) rest = IsTrue (not (begins (lengthens s) rest))

-- the text is these, one after the other
abbrev pub AreLexemesOf : List Lexeme → List ℕ → Type 0
AreLexemesOf [] text = text ≡ []
AreLexemesOf (l ∷ ls) text = (rest : List ℕ) × (text ≡ spelling l ++ rest) × Stands l rest × AreLexemesOf ls rest
