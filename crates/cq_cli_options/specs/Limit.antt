-- The word N, which limits the rows of a table.
use Rattle.std.specs.Prelude.{◌≡◌, ◌≤◌, ℕ, List, ◌++◌, codes}
use Rattle.std.specs.Str.Parse.{IsNumeral, digits_value}

-- digits alone, and their number is from 1 to 1,073,741,824
abbrev pub IsLimit : List ℕ → Type 0
IsLimit text = IsNumeral 10 text × (1 ≤ digits_value 10 text) × (digits_value 10 text ≤ 1073741824)

-- the text is a limit, and this is its number
abbrev pub IsLimitOf : List ℕ → ℕ → Type 0
IsLimitOf text n = IsLimit text × (n ≡ digits_value 10 text)

-- what is told of a text that is no limit
abbrev pub limit_refusal : List ℕ → List ℕ
limit_refusal text = codes "error: invalid value '" ++ text ++ codes "' for '--max-rows <N>': write it in digits alone\n\nFor more information, try '--help'.\n"
