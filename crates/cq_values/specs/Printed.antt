-- How values and rows are written (docs/LANGUAGE.md, Results).
use Rattle.std.specs.Prelude.{ℕ, ◌+◌, ◌/◌, ◌%◌, ◌==◌, ℤ, Bool, false, ◌||◌, if◌then◌else◌, List, [], ◌∷◌, ◌++◌, map, length, codes}
use Rattle.std.specs.Fmt.{decimal, signed_decimal}
use Rattle.std.specs.List.{flat_map, list_any}
use Rattle.cq_values.specs.declared.value.Value.{Value}
use Rattle.cq_values.specs.declared.value.Value.TheVariants.{Number, Day, Text, Null}
use Rattle.cq_values.specs.Days.{year_of, month_of, day_of_month}
use Rattle.cq_values.specs.Value.{Row}

-- a number below 100 by two digits
abbrev pub two_digits : ℕ → List ℕ
two_digits n = (48 + n / 10) ∷ (48 + n % 10) ∷ []

-- YYYY-MM-DD
unfoldable pub date_text : ℤ → List ℕ
date_text d = two_digits (year_of d / 100) ++ two_digits (year_of d % 100) ++ 45 ∷ two_digits (month_of d) ++ 45 ∷ two_digits (day_of_month d)

-- the text begins with a backslash
abbrev pub is_escaped : List ℕ → Bool
is_escaped [] = false
is_escaped (b ∷ bs) = b == 92

-- NULL is \N, and a text that begins with a backslash gets one more
abbrev pub value_text : Value → List ℕ
value_text (Number n) = signed_decimal n
value_text (Day d) = date_text d
value_text (Text t) = if is_escaped t then 92 ∷ t else t
value_text Null = 92 ∷ 78 ∷ []

-- comma, double quote, CR and LF
abbrev pub wants_quotes : ℕ → Bool
wants_quotes b = (b == 44) || (b == 34) || (b == 13) || (b == 10)

-- inside quotes a double quote is doubled
abbrev pub in_quotes : List ℕ → List ℕ
in_quotes field = 34 ∷ flat_map (λ b. if b == 34 then 34 ∷ 34 ∷ [] else b ∷ []) field ++ 34 ∷ []

-- a field is quoted where it holds one of those characters
abbrev pub field_text : List ℕ → List ℕ
field_text field = if list_any wants_quotes field then in_quotes field else field

-- fields with commas between them and an LF; a line in which nothing would stand has two quotes
unfoldable pub line_text : List (List ℕ) → List ℕ
line_text [] = 34 ∷ 34 ∷ 10 ∷ []
line_text (f ∷ []) = (if length f == 0 then 34 ∷ 34 ∷ [] else field_text f) ++ 10 ∷ []
line_text (f ∷ g ∷ fs) = field_text f ++ flat_map (λ h. 44 ∷ field_text h) (g ∷ fs) ++ 10 ∷ []

abbrev pub row_text : Row → List ℕ
row_text row = line_text (map value_text row)

-- the number of rows, the header and the rows
unfoldable pub rows_text : List (List ℕ) → List Row → List ℕ
rows_text header rows = codes "rows " ++ decimal (length rows) ++ 10 ∷ line_text header ++ flat_map row_text rows
