-- The numbers of days, and the calendar by which they are written. 1970-01-01 is day 0.
use Rattle.std.specs.Prelude.{ℕ, ℤ, pos, neg_ℤ, ◌≤ℤ◌, int_le, count_by}
use Rattle.std.specs.List.{range_with_len}
use Rattle.jiff_core.specs.Calendar.{days_from_civil}

-- 0001-01-01 is day -719162, and 9999-12-31 is day 2932896
abbrev pub IsDay : ℤ → Type 0
IsDay n = (neg_ℤ (pos 719162) ≤ℤ n) × (n ≤ℤ pos 2932896)

-- the year is the number of years, from year 1 on, that have begun by the day
unfoldable pub year_of : ℤ → ℕ
year_of n = count_by (λ y. int_le (days_from_civil (pos y) 1 1) n) (range_with_len 1 9999)

-- the month is the number of months of the year that have begun by the day
unfoldable pub month_of : ℤ → ℕ
month_of n = count_by (λ m. int_le (days_from_civil (pos (year_of n)) m 1) n) (range_with_len 1 12)

-- the day of the month is the number of days of the month that have begun by the day
unfoldable pub day_of_month : ℤ → ℕ
day_of_month n = count_by (λ d. int_le (days_from_civil (pos (year_of n)) (month_of n) d) n) (range_with_len 1 31)
