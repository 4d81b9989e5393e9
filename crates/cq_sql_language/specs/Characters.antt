-- The characters of the language, by their codes (docs/LANGUAGE.md, Scripts and tokens).
use Rattle.std.specs.Prelude.{ℕ, nat_le, ◌==◌, Bool, true, false, ◌&&◌, ◌||◌, if◌then◌else◌, List, [], ◌∷◌, ◌++◌}

-- space, tab, LF and CR
abbrev pub is_blank : ℕ → Bool
is_blank b = (b == 32) || (b == 9) || (b == 10) || (b == 13)

-- an ASCII letter or an underscore
abbrev pub is_letter : ℕ → Bool
is_letter b = (nat_le 65 b && nat_le b 90) || (nat_le 97 b && nat_le b 122) || (b == 95)

-- an ASCII digit
abbrev pub is_digit : ℕ → Bool
is_digit b = nat_le 48 b && nat_le b 57

-- what a word may go on with
abbrev pub is_word_byte : ℕ → Bool
is_word_byte b = is_letter b || is_digit b

abbrev pub is_quote : ℕ → Bool
is_quote b = b == 39

abbrev pub is_dash : ℕ → Bool
is_dash b = b == 45

-- the text begins with a character of this kind
abbrev pub begins : (ℕ → Bool) → List ℕ → Bool
begins p [] = false
begins p (b ∷ bs) = p b

-- the text is used up, or a new line begins
abbrev pub is_end_of_line : List ℕ → Bool
is_end_of_line [] = true
is_end_of_line (b ∷ bs) = b == 10

-- a quote inside a quoted text is doubled
abbrev pub doubled : List ℕ → List ℕ
doubled [] = []
doubled (b ∷ bs) = (if is_quote b then 39 ∷ 39 ∷ [] else b ∷ []) ++ doubled bs
