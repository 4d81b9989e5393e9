-- Tables keep their numbers, and each number is that of one table.
use Rattle.std.proofs.Common.{ℕ, ◌≤◌, ◌<◌, List, [], ◌∷◌, arith}
use Rattle.std.specs.Prelude.{◌==◌}
use Rattle.std.specs.List.{AllByRecursion}
use Rattle.cq_values.specs.Value.{Row}
use Rattle.cq_model_bags.proofs.Totals.{by_test}
use Rattle.cq_model_state.specs.State.{TableOf, with_rows, AreNumbered}

-- the next number may be greater
pub numbered-weaker : (tables : List TableOf) (next more : ℕ) → next ≤ more → AreNumbered tables next → AreNumbered tables more
numbered-weaker [] next more up numbered = tt
numbered-weaker (t ∷ ts) next more up numbered = (omega (arith, up, numbered.0), numbered.1, numbered-weaker ts next more up numbered.2)

-- a write changes no number
above-with_rows : (number n : ℕ) (rows : List Row) (tables : List TableOf) → AllByRecursion (λ u. number < u.number) tables → AllByRecursion (λ u. number < u.number) (with_rows n rows tables)
above-with_rows number n rows [] above = tt
above-with_rows number n rows (t ∷ ts) above = by_test (t.number == n)
    (λ k. rw k (above.0, above-with_rows number n rows ts above.1))
    (λ k. rw k (above.0, above-with_rows number n rows ts above.1))

-- so the tables have their numbers after it
pub numbered-with_rows : (n : ℕ) (rows : List Row) (tables : List TableOf) (next : ℕ) → AreNumbered tables next → AreNumbered (with_rows n rows tables) next
numbered-with_rows n rows [] next numbered = tt
numbered-with_rows n rows (t ∷ ts) next numbered = by_test (t.number == n)
    (λ k. rw k (numbered.0, above-with_rows t.number n rows ts numbered.1, numbered-with_rows n rows ts next numbered.2))
    (λ k. rw k (numbered.0, above-with_rows t.number n rows ts numbered.1, numbered-with_rows n rows ts next numbered.2))
