-- How far numbers of so many bits are from zero.
use Rattle.std.proofs.Common.{ℕ, ◌≤◌, ◌^◌, ℤ, pos, List, FitsSigned, arith, get_or, nat_abs}
use Rattle.std.specs.Int.{w64}
use Rattle.cq_vectors_stored.specs.Columns.{AllFit}
use Rattle.cq_vectors_stored.specs.Sizes.{AreUpTo}

up_to_63 : (n : ℤ) → FitsSigned w64 n → nat_abs n ≤ 2 ^ 63
up_to_63 n fits = search arith

-- no number of 64 bits is farther from zero
pub most_of_64 : (xs : List ℤ) → AllFit w64 xs → AreUpTo (2 ^ 63) xs
most_of_64 xs fit k = up_to_63 (get_or xs k (pos 0)) (fit k)
