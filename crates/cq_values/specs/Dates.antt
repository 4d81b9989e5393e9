-- Dates as they are written: four digits of the year, two of the month and two of the day, with dashes between them.
use Rattle.std.specs.Prelude.{ℕ, ◌+◌, ◌*◌, ◌-◌, ℤ, pos, nat_le, ◌==◌, Bool, ◌&&◌, if◌then◌else◌, List, [], ◌∷◌, fold, Option, Some, None, ◌≡◌, MatchResult, Result}
use Rattle.std.specs.List.{list_all}
use Rattle.jiff_core.specs.Calendar.{days_in_month, days_from_civil}

-- an ASCII digit
abbrev pub is_digit : ℕ → Bool
is_digit b = nat_le 48 b && nat_le b 57

-- the number that digits spell
abbrev pub number_of : List ℕ → ℕ
number_of digits = fold (λ n b. 10 * n + (b - 48)) 0 digits

-- a day of the calendar from the year 1 on
abbrev pub is_date : ℕ → ℕ → ℕ → Bool
is_date year month day = nat_le 1 year && nat_le 1 month && nat_le month 12 && nat_le 1 day && nat_le day (days_in_month (pos year) month)

-- the day of a year, a month and a place in the month, if there is one
abbrev pub day_at : ℕ → ℕ → ℕ → Option ℤ
day_at year month day = if is_date year month day then Some (days_from_civil (pos year) month day) else None

-- the day that a text names: it has ten characters, and the day is there
unfoldable pub day_named : List ℕ → Option ℤ
day_named (a ∷ b ∷ c ∷ d ∷ dash ∷ e ∷ f ∷ hyphen ∷ g ∷ h ∷ []) =
    if list_all is_digit (a ∷ b ∷ c ∷ d ∷ e ∷ f ∷ g ∷ h ∷ []) && (dash == 45) && (hyphen == 45)
    then day_at (number_of (a ∷ b ∷ c ∷ d ∷ [])) (number_of (e ∷ f ∷ [])) (number_of (g ∷ h ∷ []))
    else None
day_named text = None

-- the day that is named is told, and a fault where none is
abbrev pub TellsDay : {E : Type 0} → Option ℤ → Result ℤ E → Type 0
TellsDay named result = MatchResult result (λ d. named ≡ Some d) (λ _. named ≡ None)
