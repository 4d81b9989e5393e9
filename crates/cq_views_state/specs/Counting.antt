-- Changed joined rows that are counted, each of them once.
use Rattle.std.specs.Prelude.{◌≡◌, ◌<◌, ◌^◌, ℕ, length}
use Rattle.cq_model_bags.specs.Bag.{Weighted}
use Rattle.cq_deltas_joins.specs.Streaming.{IsFewChange}
use Rattle.cq_deltas_joins.specs.Taking.{TakesMerged}
use Rattle.cq_deltas_joins.specs.declared.chain.Chain.{Chain}
use Rattle.cq_model.specs.Meaning.{Tables}
use Rattle.cq_sides.specs.Ticks.{counted}

-- each of the rows counted one
abbrev pub CountsEach : ℕ → Weighted → ℕ → Type 0
CountsEach old xs new = old < 2 ^ 128 → new ≡ counted old (length xs)

-- each row that the changes add behind the joins counted one
abbrev pub CountsChange : Chain → Tables → ℕ → ℕ → Type 0
CountsChange chain changes old new = TakesMerged (λ xs. new ≡ counted old (length xs)) (IsFewChange chain changes)
