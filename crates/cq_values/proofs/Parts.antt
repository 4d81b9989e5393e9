-- The parts of a day are counts, and so they have limits.
use Rattle.std.proofs.Common.{ℕ, ◌≤◌, ℤ, pos, int_le, Bool, count_by, arith}
use Rattle.std.proofs.lemmas.List.FromFn.{length-range_with_len}
use Rattle.std.proofs.lemmas.List.Sums.{count_by-le-length}
use Rattle.std.specs.List.{range_with_len}
use Rattle.jiff_core.specs.Calendar.{days_from_civil}
use Rattle.cq_values.specs.Days.{year_of, month_of, day_of_month}

-- of so many numbers no more are counted
counted : (p : ℕ → Bool) (a n : ℕ) → count_by p (range_with_len a n) ≤ n
counted p a n = omega (arith, count_by-le-length p (range_with_len a n), length-range_with_len a n)

pub years : (d : ℤ) → year_of d ≤ 9999
unfolding year_of
years d = counted (λ y. int_le (days_from_civil (pos y) 1 1) d) 1 9999

pub months : (d : ℤ) → month_of d ≤ 12
unfolding month_of
months d = counted (λ m. int_le (days_from_civil (pos (year_of d)) m 1) d) 1 12

pub days : (d : ℤ) → day_of_month d ≤ 31
unfolding day_of_month
days d = counted (λ k. int_le (days_from_civil (pos (year_of d)) (month_of d) k) d) 1 31
