-- Joins of up to four sources have no more rows than can be counted.
use Rattle.std.proofs.Common.{◌≤◌, ◌^◌, List, [], ◌∷◌, length, arith}
use Rattle.std.proofs.lemmas.Nat.{mul-le}
use Rattle.cq_model.specs.Meaning.{Tables}
use Rattle.cq_model.specs.Sizes.{count_size}
use Rattle.cq_model.specs.declared.query.Source.{Source}
use Rattle.cq_model_state.specs.Fitting.{rows_limit}
use Rattle.cq_sides_weights.specs.Held.{sizes}
use Rattle.cq_views_state.specs.State.{crossed}

module _ (tables : Tables) (few : (source : Source) → sizes (tables source) ≤ rows_limit) where
  crossed_one : (a : Source) → crossed tables (a ∷ []) ≤ 2 ^ 30
  crossed_one a = omega (arith, few a)

  crossed_two : (a b : Source) → crossed tables (a ∷ b ∷ []) ≤ 2 ^ 60
  crossed_two a b =
      omega (arith, mul-le (sizes (tables a)) (crossed tables (b ∷ [])) (2 ^ 30) (2 ^ 30) (few a) (crossed_one b))

  crossed_three : (a b c : Source) → crossed tables (a ∷ b ∷ c ∷ []) ≤ 2 ^ 90
  crossed_three a b c =
      omega (arith, mul-le (sizes (tables a)) (crossed tables (b ∷ c ∷ [])) (2 ^ 30) (2 ^ 60) (few a) (crossed_two b c))

  crossed_four : (a b c d : Source) → crossed tables (a ∷ b ∷ c ∷ d ∷ []) ≤ count_size
  crossed_four a b c d =
      omega (
        arith,
        mul-le (sizes (tables a)) (crossed tables (b ∷ c ∷ d ∷ [])) (2 ^ 30) (2 ^ 90) (few a)
            (crossed_three b c d),
      )

  -- have no more rows than can be counted
  pub crossed_few : (sources : List Source) → length sources ≤ 4 → crossed tables sources ≤ count_size
  crossed_few [] h = omega arith
  crossed_few (a ∷ []) h = omega (arith, crossed_one a)
  crossed_few (a ∷ b ∷ []) h = omega (arith, crossed_two a b)
  crossed_few (a ∷ b ∷ c ∷ []) h = omega (arith, crossed_three a b c)
  crossed_few (a ∷ b ∷ c ∷ d ∷ []) h = crossed_four a b c d
  crossed_few (a ∷ b ∷ c ∷ d ∷ e ∷ sources) h = absurd (omega (arith, h))
