-- What is shown of stored rows fits its size.
use Rattle.std.proofs.Common.{ℕ, zero, suc, ◌≤◌, ◌<◌, ◌^◌, ℤ, pos, ◌≤ℤ◌, Bool, true, false, cond, List, [], ◌∷◌, ◌++◌, sym, subst, inl, inr, arith}
use Rattle.std.proofs.lemmas.Int.{ints}
use Rattle.std.specs.List.{AllByRecursion}
use Rattle.std.specs.Prelude.{slice_index_or}
use Rattle.cq_values.specs.declared.value.Value.{Value}
use Rattle.cq_values.specs.declared.value.Value.TheVariants.{Null, Number}
use Rattle.cq_values.specs.Order.{same_row}
use Rattle.cq_values.specs.Keys.{same_row-refl, same_row-same}
use Rattle.cq_values.specs.Value.{Row, column}
use Rattle.cq_model_bags.specs.Bag.{SameBag, once_each}
use Rattle.cq_model_bags.proofs.Listings.{times_in, same_times}
use Rattle.cq_model_bags.proofs.Totals.{by_test}
use Rattle.cq_model.specs.Group.{InRange}
use Rattle.cq_model.specs.Sizes.{count_size}
use Rattle.cq_model.specs.Width.{value_size}
use Rattle.cq_model_laws.proofs.Ranges.{all-at, all-from}
use Rattle.cq_model.proofs.Occurring.{IsRowOf}

-- ---- values of a size
-- a number is within a size
abbrev pub Fits : Value → ℕ → Type 0
Fits v n = value_size v ≤ n

-- NULL is of any size
pub null-fits : (n : ℕ) → Fits Null n
null-fits n = omega arith

-- each value fits the size beside it
abbrev pub FitBeside : List Value → List ℕ → Type 0
FitBeside [] [] = Unit {0}
FitBeside (v ∷ vs) (n ∷ ns) = Fits v n × FitBeside vs ns
FitBeside vs ns = ⊥

-- so does each column, also past the end
pub beside-at : (vs : List Value) (ns : List ℕ) → FitBeside vs ns → (i : ℕ) → Fits (column vs i) (slice_index_or ns i 0)
beside-at [] [] h i = null-fits 0
beside-at [] (n ∷ ns) h i = absurd h
beside-at (v ∷ vs) [] h i = absurd h
beside-at (v ∷ vs) (n ∷ ns) h zero = h.0
beside-at (v ∷ vs) (n ∷ ns) h (suc i) = beside-at vs ns h.1 i

-- and what is put together of such
pub beside-append : (vs : List Value) (ns : List ℕ) (ws : List Value) (ms : List ℕ) → FitBeside vs ns → FitBeside ws ms → FitBeside (vs ++ ws) (ns ++ ms)
beside-append [] [] ws ms h k = k
beside-append [] (n ∷ ns) ws ms h k = absurd h
beside-append (v ∷ vs) [] ws ms h k = absurd h
beside-append (v ∷ vs) (n ∷ ns) ws ms h k = (h.0, beside-append vs ns ws ms h.1 k)

-- ---- rows that are listed
-- a row that is listed occurs
times-of : (r : Row) (rows : List Row) → IsRowOf r rows → 0 < times_in r rows
times-of r [] h = absurd h
times-of r (s ∷ rows) (inl e) = rw (e, same_row-refl s) (omega arith)
times-of r (s ∷ rows) (inr h) = omega (arith, times-of r rows h)

-- and one that occurs is listed
pub row-of : (r : Row) (rows : List Row) → 0 < times_in r rows → IsRowOf r rows
row-of r [] h = absurd (omega arith)
row-of r (s ∷ rows) h = by_test (same_row s r)
    (λ k. inl (sym (same_row-same s r k)))
    (λ k. let u = rw k at h in inr (row-of r rows (omega (arith, u))))

-- two lists of one bag have the same rows
pub all-listed : (P : Row → Type 0) (rows listed : List Row) → SameBag (once_each listed) (once_each rows) → AllByRecursion P rows → AllByRecursion P listed
all-listed P rows listed same all =
    all-from P listed (λ r h. all-at P rows all r (row-of r rows (subst (λ n. 0 < n) (same_times listed rows same r) (times-of r listed h))))

-- ---- what is shown of rows of a table
-- a number that counts so many, at most
abbrev pub IsCount : ℤ → ℕ → Type 0
IsCount n m = (pos 0 ≤ℤ n) × (n ≤ℤ pos m)

pub test-within : (b : Bool) → IsCount (cond b (pos 0) (pos 1)) 1
test-within true = (omega (arith, ints), omega (arith, ints))
test-within false = (omega (arith, ints), omega (arith, ints))

-- a count is of its size
pub count-fits : (n : ℤ) (m : ℕ) → IsCount n m → m ≤ count_size → Fits (Number n) count_size
count-fits n m h few = omega (arith, ints, h.0, h.1, few)

-- and so is a total that can be shown
pub sum-fits : (n : ℤ) → InRange n → Fits (Number n) (2 ^ 127)
sum-fits n h = omega (arith, ints, h.low, h.high)
