-- The parts of a date are the years and the months that have begun by it.
use Rattle.std.proofs.Common.{◌≡◌, ◌∙◌, refl, sym, arith, ℕ, zero, suc, ◌+◌, ◌-◌, ◌<◌, ◌≤◌, min, cond, Bool, true, false, nat_le, count_by, ℤ, pos, negsuc, ◌≤ℤ◌, ◌-ℤ◌, neg_ℤ, unsigned_abs, int_le, inl, inr}
use Rattle.std.proofs.lemmas.Bool.{cases_order}
use Rattle.std.proofs.lemmas.Bool.Decides.{nat_tests}
use Rattle.std.proofs.lemmas.List.Sums.{sum_by-cons}
use Rattle.std.specs.List.{range_with_len}
use Rattle.jiff_core.specs.Calendar.{days_from_civil, day_count, IsCivilDate}
use Rattle.jiff_core.proofs.SignedLemmas.{signed_arith}
use Rattle.jiff_core.proofs.CalendarLemmas.{days_from_civil-day_count, day_count-lt_year, day_count-lt_month, day_count-later_year, day_count-day_of_year, day_count-day, days_in_month_bounds}
use Rattle.jiff_core.proofs.MarchLemmas.{day_count-early}
use Rattle.jiff_core.proofs.DateLemmas.{civil}
use Rattle.jiff_core.specs.Date.{epoch_day}
use Rattle.jiff_core.specs.declared.civil.date.Date.{Date}
use Rattle.std.proofs.lemmas.Int.{by_lt_z}
use borrow.Author.Differences.{true_is_le, false_is_le}
use Rattle.cq_values.specs.Days.{year_of, month_of, day_of_month, IsDay}

-- among n numbers from a on, those up to y are counted
counted : (p : ℕ → Bool) (y a n : ℕ) → ((k : ℕ) → a ≤ k → k < a + n → p k ≡ nat_le k y) → count_by p (range_with_len a n) ≡ min n (y + 1 - a)
counted p y a zero h = omega arith
counted p y a (suc n) h =
    let here = h a (omega arith) (omega arith) in
    let rest = counted p y (a + 1) n (λ k low high. h k (omega arith) (omega arith)) in
    let split = sum_by-cons (λ (x : ℕ). cond (p x) 1 0) a (range_with_len (a + 1) n) in
    split ∙ rw (here, rest) (grind (arith, nat_tests))

-- days compare as what is counted by them
begun : (y z : ℤ) (m d n e p q : ℕ) → (p ≤ q → day_count y m d ≤ day_count z n e) → (q < p → day_count z n e < day_count y m d) → int_le (days_from_civil y m d) (days_from_civil z n e) ≡ nat_le p q
begun y z m d n e p q before after =
    elim (cases_order q p) [
      | inl same ↦ begun_by (omega arith)
      | inr (inl lt) ↦
          let test : nat_le p q ≡ false = grind (arith, nat_tests) in
          sym (false_is_le (days_from_civil y m d) (days_from_civil z n e) (omega (arith, signed_arith, days_from_civil-day_count y m d, days_from_civil-day_count z n e, after lt))) ∙ sym test
      | inr (inr gt) ↦ begun_by (omega arith)
    ]
  where
    begun_by : p ≤ q → int_le (days_from_civil y m d) (days_from_civil z n e) ≡ nat_le p q
    begun_by le =
        let test : nat_le p q ≡ true = grind (arith, nat_tests) in
        sym (true_is_le (days_from_civil y m d) (days_from_civil z n e) (omega (arith, signed_arith, days_from_civil-day_count y m d, days_from_civil-day_count z n e, before le))) ∙ sym test

-- the first of January of a year up to the date's is not after it
pub year_before : (y k m d : ℕ) → IsCivilDate (pos y) m d → k ≤ y → day_count (pos k) 1 1 ≤ day_count (pos y) m d
year_before y k m d h le =
    let place = day_count-day_of_year (pos y) m d h.2.0 in
    elim (cases_order k y) [
      | inl same ↦ rw same (omega arith)
      | inr (inl lt) ↦ omega (arith, day_count-later_year (pos k) (pos y) (omega (arith, signed_arith)) (omega (arith, signed_arith)))
      | inr (inr gt) ↦ absurd (omega arith)
    ]

-- the first of a month up to the date's is not after it
month_before : (y : ℤ) (k m d : ℕ) → 1 ≤ k → k ≤ 12 → IsCivilDate y m d → k ≤ m → day_count y k 1 ≤ day_count y m d
month_before y k m d low high h le =
    elim (cases_order k m) [
      | inl same ↦ rw same (omega (arith, day_count-day y m 1 d (omega arith) h.2.0, h.2.0))
      | inr (inl lt) ↦ omega (arith, day_count-lt_month y k 1 m d (h.0, (low, high), (omega arith, omega (arith, days_in_month_bounds y k))) h.2.0 lt)
      | inr (inr gt) ↦ absurd (omega arith)
    ]

-- the parts of the day with the number of a date
module _ (y m d : ℕ) (n : ℤ) (real : IsCivilDate (pos y) m d) (numbered : n ≡ days_from_civil (pos y) m d) where
  -- a year has begun if it is not after the date's
  year_begun : (k : ℕ) → int_le (days_from_civil (pos k) 1 1) n ≡ nat_le k y
  year_begun k =
      rw numbered (begun (pos k) (pos y) 1 1 m d k y (year_before y k m d real) (λ lt. day_count-lt_year (pos y) m d (pos k) 1 1 real (omega arith) (omega (arith, signed_arith))))

  -- a month has begun if it is not after the date's
  month_begun : (k : ℕ) → 1 ≤ k → k ≤ 12 → int_le (days_from_civil (pos y) k 1) n ≡ nat_le k m
  month_begun k low high =
      rw numbered (begun (pos y) (pos y) k 1 m d k m (month_before (pos y) k m d low high real) (λ lt. day_count-lt_month (pos y) m d k 1 real (omega arith) lt))

  -- the years that have begun are those up to the date's
  pub year_of_date : year_of n ≡ y
  unfolding year_of
  year_of_date =
      let all : min 9999 (y + 1 - 1) ≡ y = omega (arith, signed_arith) in
      counted (λ (k : ℕ). int_le (days_from_civil (pos k) 1 1) n) y 1 9999 (λ k low high. year_begun k) ∙ all

  -- the months that have begun are those up to the date's
  pub month_of_date : month_of n ≡ m
  unfolding month_of
  month_of_date =
      let all : min 12 (m + 1 - 1) ≡ m = omega arith in
      rw year_of_date (counted (λ (k : ℕ). int_le (days_from_civil (pos y) k 1) n) m 1 12 (λ k low high. month_begun k low (omega arith)) ∙ all)

  -- a day of the month has begun if it is not after the date's
  day_begun : (k : ℕ) → 1 ≤ k → k ≤ 31 → int_le (days_from_civil (pos y) m k) n ≡ nat_le k d
  day_begun k low high =
      let apart = day_count-day (pos y) m k d low real.2.0 in
      rw numbered (begun (pos y) (pos y) m k m d k d (λ le. omega (arith, apart)) (λ lt. omega (arith, apart)))

  -- the days that have begun are those up to the date's
  pub day_of_date : day_of_month n ≡ d
  unfolding day_of_month
  day_of_date =
      let all : min 31 (d + 1 - 1) ≡ d = omega (arith, days_in_month_bounds (pos y) m, real.2.1) in
      rw (year_of_date, month_of_date) (counted (λ (k : ℕ). int_le (days_from_civil (pos y) m k) n) d 1 31 (λ k low high. day_begun k low (omega arith)) ∙ all)

-- the days before 0001-01-01
pub day_count-start : day_count (pos 1) 1 1 ≡ 3_652_791
day_count-start = day_count-early (pos 1) 10000 1 1 refl (omega arith) (omega arith) (omega arith)

-- a date from 0001-01-01 on has a year from 1 on
pub later_than_start : (d : Date) → neg_ℤ (pos 719162) ≤ℤ epoch_day d → pos 1 ≤ℤ d.year
later_than_start d h =
    by_lt_z d.year (pos 1) (λ lt. absurd (omega (arith, signed_arith, day_count-start, days_from_civil-day_count d.year d.month d.day, day_count-lt_year d.year d.month d.day (pos 1) 1 1 (civil d) (omega arith) lt))) (λ ge. ge)

-- a number from 1 on is its size
pub positive : (z : ℤ) → pos 1 ≤ℤ z → z ≡ pos (unsigned_abs z)
positive (pos n) h = refl
positive (negsuc n) h = absurd (omega (arith, signed_arith))

-- the year of a day's date has no sign
year_is : (d : Date) (n : ℤ) → IsDay n → epoch_day d ≡ n → d.year ≡ pos (unsigned_abs d.year)
year_is d n h e =
    let low : neg_ℤ (pos 719162) ≤ℤ epoch_day d = rw e h.0 in
    positive d.year (later_than_start d low)

-- a date with the number of a day has the day's parts
module _ (d : Date) (n : ℤ) (day : IsDay n) (numbered : epoch_day d ≡ n) where
  -- the parts name a day of the calendar
  real : IsCivilDate (pos (unsigned_abs d.year)) d.month d.day
  real = rw (← year_is d n day numbered) (civil d)

  -- and the number is that day's
  number : n ≡ days_from_civil (pos (unsigned_abs d.year)) d.month d.day
  number = rw (← year_is d n day numbered) (sym numbered)

  -- its year is that of the definition
  pub year_of_epoch_day : unsigned_abs d.year ≡ year_of n
  year_of_epoch_day = sym (year_of_date _ d.month d.day n real number)

  -- and so is its month
  pub month_of_epoch_day : d.month ≡ month_of n
  month_of_epoch_day = sym (month_of_date _ d.month d.day n real number)

  -- and its place in the month
  pub day_of_epoch_day : d.day ≡ day_of_month n
  day_of_epoch_day = sym (day_of_date _ d.month d.day n real number)
