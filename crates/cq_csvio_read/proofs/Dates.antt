-- A day that is written as a date is named by it.
use Rattle.std.proofs.Common.{◌≡◌, ◌∙◌, ◌∷◌, ◌++◌, [], ℕ, zero, suc, ◌+◌, ◌*◌, ◌/◌, ◌%◌, ◌<◌, ◌≤◌, ◌==◌, List, Some, false, refl, sym, ap, subst, inl, inr, ℤ, pos, negsuc, ◌+ℤ◌, ◌-ℤ◌, ◌≤ℤ◌, ◌<ℤ◌, unsigned_abs, arith}
use Rattle.std.proofs.lemmas.Bool.{cases_order, ne_eqb}
use Rattle.std.proofs.lemmas.Bool.Decides.{nat_tests}
use Rattle.std.proofs.lemmas.Str.Ascii.{IsAscii-cons, IsAscii-nil}
use Rattle.std.specs.Str.{IsAscii}
use Rattle.jiff_core.specs.Calendar.{IsCivilDate, days_from_civil, days_in_month}
use Rattle.jiff_core.proofs.SignedLemmas.{signed_arith}
use Rattle.jiff_core.proofs.CalendarLemmas.{days_in_month_bounds}
use Rattle.jiff_core.proofs.DateLemmas.{days_from_civil-day, days_from_civil-max, days_from_civil-next_month, days_from_civil-next_year}
use Rattle.cq_values.specs.Dates.{day_at, day_named}
use Rattle.cq_values.specs.Days.{IsDay}
use Rattle.cq_values.proofs.Calendar.{day_of_date, month_of_date, year_of_date}
use Rattle.cq_values.proofs.NamedDays.{Spell, day_at-date, day_named-digits, first_day}
use Rattle.cq_values.specs.Printed.{date_text, two_digits}

-- a date of the calendar from the year 1 on, with the number of its day
abbrev Names : ℕ → ℕ → ℕ → ℤ → Type 0
Names y m d n = (1 ≤ y) × IsCivilDate (pos y) m d × (n ≡ days_from_civil (pos y) m d)

abbrev IsNamed : ℤ → Type 0
IsNamed n = (y : ℕ) × (m : ℕ) × (d : ℕ) × Names y m d n

module _ (y m d : ℕ) (n : ℤ) (named : Names y m d n) (early : n <ℤ pos 2932896) where
  -- the next day of the month
  in_month : d < days_in_month (pos y) m → IsNamed (n +ℤ pos 1)
  in_month lt =
      let next = days_from_civil-day (pos y) m d (d + 1) named.1.2.0 (omega arith) in
      let number = named.2 in
      (y, m, d + 1, (named.0, (named.1.0, named.1.1, (omega arith, omega (arith, lt))), omega (arith, signed_arith, next, number)))

  -- the first of the next month
  in_year : d ≡ days_in_month (pos y) m → m < 12 → IsNamed (n +ℤ pos 1)
  in_year last lt =
      let next = days_from_civil-next_month (pos y) m d named.1.1.0 last in
      let number = named.2 in
      (y, m + 1, 1, (named.0, (named.1.0, (omega arith, omega (arith, lt)), (omega arith, omega (arith, days_in_month_bounds (pos y) (m + 1)))), omega (arith, signed_arith, next, number)))

  -- the first of the next year
  next_year : d ≡ days_in_month (pos y) m → m ≡ 12 → IsNamed (n +ℤ pos 1)
  next_year last december =
      let number : n ≡ days_from_civil (pos y) 12 31 = named.2 ∙ rw (last, december) refl in
      let next = days_from_civil-next_year (pos y) (pos (y + 1)) (omega (arith, signed_arith)) (omega (arith, signed_arith)) in
      elim (cases_order y 9999) [
        | inl end ↦ absurd (let max : n ≡ days_from_civil (pos 9999) 12 31 = rw end at number in omega (arith, signed_arith, max, days_from_civil-max, early))
        | inr (inl lt) ↦ (y + 1, 1, 1, (omega arith, (grind (arith, signed_arith), (omega arith, omega arith), (omega arith, omega (arith, days_in_month_bounds (pos (y + 1)) 1))), omega (arith, signed_arith, next, number)))
        | inr (inr gt) ↦ absurd (let year = named.1.0 in grind (arith, signed_arith))
      ]

  -- the next day
  later : IsNamed (n +ℤ pos 1)
  later = elim (cases_order d (days_in_month (pos y) m)) [
    | inl last ↦ elim (cases_order m 12) [
      | inl december ↦ next_year last december
      | inr (inl lt) ↦ in_year last lt
      | inr (inr gt) ↦ absurd (omega (arith, named.1.1.1, gt))
    ]
    | inr (inl lt) ↦ in_month lt
    | inr (inr gt) ↦ absurd (omega (arith, named.1.2.1, gt))
  ]

-- so each day after the first has a date
named_from : (k : ℕ) (n : ℤ) → n +ℤ pos 719162 ≡ pos k → n ≤ℤ pos 2932896 → IsNamed n
named_from zero n place end =
    (1, 1, 1, (omega arith, (grind (arith, signed_arith), (omega arith, omega arith), (omega arith, omega arith)), omega (arith, signed_arith, place, first_day)))
named_from (suc k) n place end =
    let before = named_from k (n -ℤ pos 1) (omega (arith, signed_arith, place)) (omega (arith, signed_arith, end)) in
    let same : (n -ℤ pos 1) +ℤ pos 1 ≡ n = omega (arith, signed_arith) in
    subst IsNamed same (later before.0 before.1 before.2 (n -ℤ pos 1) before.3 (omega (arith, signed_arith, end)))

counted : (z : ℤ) → pos 0 ≤ℤ z → z ≡ pos (unsigned_abs z)
counted (pos n) h = refl
counted (negsuc n) h = absurd (omega (arith, signed_arith))

named : (n : ℤ) → IsDay n → IsNamed n
named n day = named_from (unsigned_abs (n +ℤ pos 719162)) n (counted (n +ℤ pos 719162) (omega (arith, signed_arith, day.0))) day.1

-- two digits spell their number
two_spell : (n : ℕ) → n < 100 → Spell (48 + n / 10) (48 + n % 10) n
two_spell n small = (grind (arith, nat_tests), omega arith)

-- the date of a year, a month and a place in the month
abbrev parts_text : ℕ → ℕ → ℕ → List ℕ
parts_text y m d = two_digits (y / 100) ++ two_digits (y % 100) ++ 45 ∷ two_digits m ++ 45 ∷ two_digits d

parts_named : (y m d : ℕ) → y < 10000 → m < 100 → d < 100 → day_named (parts_text y m d) ≡ day_at y m d
parts_named y m d year month day =
    let whole : y / 100 * 100 + y % 100 ≡ y = omega arith in
    day_named-digits (parts_text y m d) (y / 100) (y % 100) m d refl (refl, refl) (two_spell (y / 100) (omega (arith, year))) (two_spell (y % 100) (omega arith)) (two_spell m month) (two_spell d day)
    ∙ ap (λ (z : ℕ). day_at z m d) whole

-- a date names its day, and is ASCII and begins with a digit
pub record IsDateOf (n : ℤ) (text : List ℕ) : Type 0 where
  pub names : day_named text ≡ Some n
  pub ascii : IsAscii text
  pub first : (b : ℕ) × (rest : List ℕ) × (text ≡ b ∷ rest) × ((b == 92) ≡ false)

digits_ascii : (n : ℕ) (rest : List ℕ) → n < 100 → IsAscii rest → IsAscii (two_digits n ++ rest)
digits_ascii n rest small tail = IsAscii-cons (48 + n / 10) ((48 + n % 10) ∷ rest) (omega (arith, small)) (IsAscii-cons (48 + n % 10) rest (omega arith) tail)

dash_ascii : (rest : List ℕ) → IsAscii rest → IsAscii (45 ∷ rest)
dash_ascii rest tail = IsAscii-cons 45 rest (omega arith) tail

parts_ascii : (y m d : ℕ) → y < 10000 → m < 100 → d < 100 → IsAscii (parts_text y m d)
parts_ascii y m d year month day =
    let days : List ℕ = 45 ∷ two_digits d in
    let months : List ℕ = 45 ∷ two_digits m ++ days in
    let places : IsAscii months = dash_ascii (two_digits m ++ days) (digits_ascii m days month (dash_ascii (two_digits d) (digits_ascii d [] day IsAscii-nil))) in
    digits_ascii (y / 100) (two_digits (y % 100) ++ months) (omega (arith, year)) (digits_ascii (y % 100) months (omega arith) places)

module _ (y m d : ℕ) (n : ℤ) (names : Names y m d n) where
  year_in : y < 10000
  year_in = let range = names.1.0 in grind (arith, signed_arith)

  month_in : m < 100
  month_in = omega (arith, names.1.1.1)

  place_in : d < 100
  place_in = omega (arith, names.1.2.1, days_in_month_bounds (pos y) m)

  written : date_text n ≡ parts_text y m d
  unfolding date_text
  written = rw (year_of_date y m d n names.1 names.2, month_of_date y m d n names.1 names.2, day_of_date y m d n names.1 names.2) refl

  day_is : day_at y m d ≡ Some n
  day_is = day_at-date y m d (grind (arith, signed_arith)) names.0 ∙ ap Some (sym names.2)

  date_of : IsDateOf n (parts_text y m d)
  date_of = record {
    names = parts_named y m d year_in month_in place_in ∙ day_is;
    ascii = parts_ascii y m d year_in month_in place_in;
    first = (48 + y / 100 / 10, (48 + y / 100 % 10) ∷ (two_digits (y % 100) ++ 45 ∷ two_digits m ++ 45 ∷ two_digits d), refl, ne_eqb (48 + y / 100 / 10) 92 (λ e. absurd (omega (arith, e, year_in))));
  }

-- what is written for a day is its date
pub date_read : (n : ℤ) → IsDay n → IsDateOf n (date_text n)
date_read n day =
    let it = named n day in
    rw (written it.0 it.1 it.2 n it.3) (date_of it.0 it.1 it.2 n it.3)
