-- The days that years, months and places in the month name, and the first and the last of them.
use Rattle.std.proofs.Common.{◌≡◌, ◌∙◌, refl, sym, ap, arith, ℕ, zero, suc, ◌+◌, ◌*◌, ◌≤◌, true, List, [], ◌∷◌, length, get_or, Option, Some, None, IsSome, IfSome, ◌↔◌, MatchResult, ℤ, pos, neg_ℤ, ◌≤ℤ◌, unsigned_abs}
use Rattle.std.proofs.lemmas.Bool.Decides.{nat_tests}
use Rattle.std.proofs.Math.ListN.{drop_of_length-le}
use Rattle.std.proofs.Math.Seq.{drop-cons}
use Rattle.std.specs.List.{list_all}
use Rattle.std.specs.Option.{ok_or}
use Rattle.jiff_core.specs.Calendar.{days_from_civil, day_count, IsDate}
use Rattle.jiff_core.specs.Date.{epoch_day, IsYmd}
use Rattle.jiff_core.specs.declared.civil.date.Date.{Date}
use Rattle.jiff_core.proofs.SignedLemmas.{signed_arith}
use Rattle.jiff_core.proofs.CalendarLemmas.{days_from_civil-day_count, day_count-next_year, day_count-last_of_year, day_count-end}
use Rattle.jiff_core.proofs.DateLemmas.{civil, epoch_day_range}
use Rattle.cq_values.specs.Dates.{is_digit, number_of, day_at, day_named}
use Rattle.cq_values.specs.Days.{IsDay}
use Rattle.cq_values.proofs.Calendar.{day_count-start, later_than_start, positive, year_before}

-- 0001-01-01 is day -719162, the first one
pub first_day : days_from_civil (pos 1) 1 1 ≡ neg_ℤ (pos 719162)
first_day = omega (arith, signed_arith, day_count-start, days_from_civil-day_count (pos 1) 1 1)

-- 9999-12-31 is day 2932896, the last one
pub last_day : days_from_civil (pos 9999) 12 31 ≡ pos 2932896
last_day =
    let next = day_count-next_year (pos 9999) (pos 10000) (omega (arith, signed_arith)) (omega (arith, signed_arith)) in
    omega (arith, signed_arith, next, day_count-end, day_count-last_of_year (pos 9999), days_from_civil-day_count (pos 9999) 12 31)

-- a date from the year 1 on is a day
pub is_day : (d : Date) → pos 1 ≤ℤ d.year → IsDay (epoch_day d)
is_day d h =
    let year = positive d.year h in
    let late = year_before (unsigned_abs d.year) 1 d.month d.day (rw (← year) (civil d)) (omega (arith, signed_arith)) in
    let after : day_count (pos 1) 1 1 ≤ day_count d.year d.month d.day = rw year late in
    (omega (arith, signed_arith, after, day_count-start, days_from_civil-day_count d.year d.month d.day), (epoch_day_range d).1)

-- a date of the calendar from the year 1 on is the day of its parts
pub day_at-date : (y m d : ℕ) → IsDate (pos y) (pos m) (pos d) → 1 ≤ y → day_at y m d ≡ Some (days_from_civil (pos y) m d)
day_at-date y m d h first = grind (arith, nat_tests)

-- the day that a date has, if it has one, is what its parts name
pub day_at-found : (y m d : ℕ) (date : Date) (found : Option ℤ) → IsDate (pos y) (pos m) (pos d) → IsYmd (pos y) (pos m) (pos d) date → (IsSome found ↔ IsDay (epoch_day date)) → IfSome found (λ n. n ≡ epoch_day date) → day_at y m d ≡ found
day_at-found zero m d date None real parts has is = refl
day_at-found (suc y) m d date None real parts has is =
    let year : pos 1 ≤ℤ date.year = omega (arith, signed_arith) in
    absurd (cc (has.1 (is_day date year)))
day_at-found y m d date (Some n) real parts has is =
    let year = later_than_start date (has.0 refl).0 in
    let month : date.month ≡ m = cc in
    let day : date.day ≡ d = cc in
    let same : days_from_civil (pos y) m d ≡ n = rw (← parts.0, ← month, ← day) (sym is) in
    day_at-date y m d real (omega (arith, signed_arith)) ∙ ap Some same

-- a text of ten characters is the list of them
ten : (t : List ℕ) → length t ≡ 10 → t ≡ get_or t 0 0 ∷ get_or t 1 0 ∷ get_or t 2 0 ∷ get_or t 3 0 ∷ get_or t 4 0 ∷ get_or t 5 0 ∷ get_or t 6 0 ∷ get_or t 7 0 ∷ get_or t 8 0 ∷ get_or t 9 0 ∷ []
ten t h =
    cc (drop-cons t 0 0 (omega arith), drop-cons t 1 0 (omega arith), drop-cons t 2 0 (omega arith), drop-cons t 3 0 (omega arith), drop-cons t 4 0 (omega arith), drop-cons t 5 0 (omega arith), drop-cons t 6 0 (omega arith), drop-cons t 7 0 (omega arith), drop-cons t 8 0 (omega arith), drop-cons t 9 0 (omega arith), drop_of_length-le t {i = 10} (omega arith))

-- both are digits, and together they spell this number
abbrev pub Spell : ℕ → ℕ → ℕ → Type 0
Spell tens units n = (list_all is_digit (tens ∷ units ∷ []) ≡ true) × (n ≡ number_of (tens ∷ units ∷ []))

-- and the day that it names is that of its digits, where dashes are between them
pub day_named-digits : (t : List ℕ) (century rest month day : ℕ) → length t ≡ 10 → (get_or t 4 0 ≡ 45) × (get_or t 7 0 ≡ 45) → Spell (get_or t 0 0) (get_or t 1 0) century → Spell (get_or t 2 0) (get_or t 3 0) rest → Spell (get_or t 5 0) (get_or t 6 0) month → Spell (get_or t 8 0) (get_or t 9 0) day → day_named t ≡ day_at (century * 100 + rest) month day
unfolding day_named
day_named-digits t century rest month day long dashes c r m d =
    let year : number_of (get_or t 0 0 ∷ get_or t 1 0 ∷ get_or t 2 0 ∷ get_or t 3 0 ∷ []) ≡ century * 100 + rest = omega arith in
    let digits : list_all is_digit (get_or t 0 0 ∷ get_or t 1 0 ∷ get_or t 2 0 ∷ get_or t 3 0 ∷ get_or t 5 0 ∷ get_or t 6 0 ∷ get_or t 8 0 ∷ get_or t 9 0 ∷ []) ≡ true = grind (arith, nat_tests) in
    rw (ten t long, digits, year, dashes.0, dashes.1, ← m.1, ← d.1) refl

-- a text of another length names no day
pub day_named-other : (t : List ℕ) → (length t ≡ 10 → ⊥) → day_named t ≡ None
unfolding day_named
day_named-other [] h = refl
day_named-other (a ∷ []) h = refl
day_named-other (a ∷ b ∷ []) h = refl
day_named-other (a ∷ b ∷ c ∷ []) h = refl
day_named-other (a ∷ b ∷ c ∷ d ∷ []) h = refl
day_named-other (a ∷ b ∷ c ∷ d ∷ x ∷ []) h = refl
day_named-other (a ∷ b ∷ c ∷ d ∷ x ∷ e ∷ []) h = refl
day_named-other (a ∷ b ∷ c ∷ d ∷ x ∷ e ∷ f ∷ []) h = refl
day_named-other (a ∷ b ∷ c ∷ d ∷ x ∷ e ∷ f ∷ y ∷ []) h = refl
day_named-other (a ∷ b ∷ c ∷ d ∷ x ∷ e ∷ f ∷ y ∷ g ∷ []) h = refl
day_named-other (a ∷ b ∷ c ∷ d ∷ x ∷ e ∷ f ∷ y ∷ g ∷ i ∷ []) h = absurd (h refl)
day_named-other (a ∷ b ∷ c ∷ d ∷ x ∷ e ∷ f ∷ y ∷ g ∷ i ∷ j ∷ t) h = refl

-- a day that is there is told, and else the fault
pub told : {E : Type 0} (found named : Option ℤ) (fault : E) → named ≡ found → MatchResult (ok_or found fault) (λ d. named ≡ Some d) (λ _. named ≡ None)
told None named fault e = e
told (Some d) named fault e = e
