-- LIKE, on characters: the relation, and the test for it (ISO 9075-2, 8.5).
use Rattle.std.specs.Prelude.{◌≡◌, ℕ, ◌==◌, Bool, true, false, ◌&&◌, MatchBool, if◌then◌else◌, List, [], ◌∷◌, ◌++◌, length}
use Rattle.std.specs.List.{list_any}

-- the sign that stands for any characters
abbrev pub percent : ℕ
percent = 37

-- the sign that stands for one character
abbrev pub underscore : ℕ
underscore = 95

-- '%' stands for any characters, '_' for one, any other character for itself
abbrev pub StandsFor : ℕ → List ℕ → Type 0
StandsFor p front = MatchBool (p == percent) (Unit {0}) (MatchBool (p == underscore) (length front ≡ 1) (front ≡ p ∷ []))

-- the text is what the pattern's characters stand for, one after the other
abbrev pub Fits : List ℕ → List ℕ → Type 0
Fits [] text = text ≡ []
Fits (p ∷ pattern) text = (front : List ℕ) × (rest : List ℕ) × (text ≡ front ++ rest) × StandsFor p front × Fits pattern rest

-- a list and what is left of it after each front
abbrev pub ends_of : List ℕ → List (List ℕ)
ends_of [] = [] ∷ []
ends_of (c ∷ cs) = (c ∷ cs) ∷ ends_of cs

-- the text has no character at all
abbrev pub is_nil : List ℕ → Bool
is_nil [] = true
is_nil (c ∷ cs) = false

-- the first character passes, and so does the rest
abbrev pub after_one : (ℕ → Bool) → (List ℕ → Bool) → List ℕ → Bool
after_one test more [] = false
after_one test more (c ∷ cs) = test c && more cs

-- whether the pattern fits the text
abbrev pub like : List ℕ → List ℕ → Bool
like [] text = is_nil text
like (p ∷ pattern) text =
    if p == percent then list_any (like pattern) (ends_of text)
    else if p == underscore then after_one (λ c. true) (like pattern) text
    else after_one (λ c. c == p) (like pattern) text

-- whether the pattern fits some end of the text
abbrev pub fits_some_end : List ℕ → List ℕ → Bool
fits_some_end pattern text = list_any (like pattern) (ends_of text)
