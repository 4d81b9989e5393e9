-- How far numbers are from zero.
use Rattle.std.specs.Prelude.{ℕ, ℤ, pos, nat_abs, ◌≤◌, Bool, List, slice_index_or}
use Rattle.std.specs.Int.{w64}
use Rattle.cq_vectors_stored.specs.Columns.{AreNumbers}

-- none of the numbers is farther from zero
abbrev pub AreUpTo : ℕ → List ℤ → Type 0
AreUpTo most numbers = (k : ℕ) → nat_abs (slice_index_or numbers k (pos 0)) ≤ most

-- numbers of 64 bits of at most this size, with their flags
abbrev pub AreSized : ℕ → List ℤ → List Bool → Type 0
AreSized size ns flags = AreNumbers w64 ns flags × AreUpTo size ns
