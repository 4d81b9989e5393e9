-- Bytes that are read together: those that begin nothing, and the digits of a number.
use Rattle.std.specs.Prelude.{◌≡◌, ℕ, ◌<◌, ◌^◌, Bool, ◌||◌, ◌==◌, not, List, take}
use Rattle.std.specs.List.{prefix_len}
use Rattle.cq_sql_language.specs.Characters.{is_digit, is_quote, is_dash}
use Rattle.cq_sql_language.specs.Tokens.{decimal}

-- a byte that begins no text and no comment, and ends no piece
abbrev pub is_plain : ℕ → Bool
is_plain b = not (b == 59 || is_quote b || is_dash b)

-- the number of 64 bits that all digits in front spell, and how many they are
abbrev pub IsNumberAt : List ℕ → ℕ × ℕ → Type 0
IsNumberAt bytes r = (r.1 ≡ prefix_len is_digit bytes) × (r.0 ≡ decimal (take r.1 bytes)) × (r.0 < 2 ^ 64)
