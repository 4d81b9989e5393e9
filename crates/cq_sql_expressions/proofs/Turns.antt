-- Reading entries behind their leads or separators, as a loop does.
use Rattle.std.proofs.Common.{◌≡◌, ℕ, ◌-◌, ◌+◌, ◌<◌, List, [], ◌∷◌, ◌++◌, Option, Some, None, refl}
use Rattle.cq_sql_language.specs.declared.token.Token.{Token}
use Rattle.cq_sql_expressions.specs.declared.fault.SqlFault.{SqlFault}
use Rattle.cq_sql_expressions.specs.Gives.{Fails}
use Rattle.cq_sql_expressions.specs.Read.{◌>>=◌, Reader}
use Rattle.cq_sql_expressions.specs.Lists.{chain_from, one_more_behind}
use Rattle.cq_sql_expressions.proofs.Chains.{turn_goes_on, turn_fails, turn_stops}

-- a turn, where what was read and what is still read make the whole
module _ {A : Type 0} (after : List Token → Option (List Token)) (item : Reader A) (xs : List A) (count i : ℕ) (ts : List Token) (total : Option (List A × List Token)) (lt : i < count) (so_far : chain_from (one_more_behind after item) (count - i) xs ts ≡ total) where
  -- an entry behind its lead: the rest is still read
  pub entry_goes_on : (us vs : List Token) (x : A) → after ts ≡ Some us → item us ≡ Some (x, vs) → chain_from (one_more_behind after item) (count - (i + 1)) (xs ++ x ∷ []) vs ≡ total
  unfolding one_more_behind
  entry_goes_on us vs x there read =
      let step : one_more_behind after item xs ts ≡ Some (Some (xs ++ x ∷ [], vs)) = rw (there, read) refl in
      turn_goes_on (one_more_behind after item) count i xs ts total lt so_far (xs ++ x ∷ []) vs step

  -- a lead with no entry behind it: the whole fails in the same way
  pub entry_fails : (e : SqlFault) (us : List Token) → after ts ≡ Some us → Fails e (item us) → Fails e total
  unfolding one_more_behind
  entry_fails e us there failed =
      let step : one_more_behind after item xs ts ≡ Some (item us >>= λ r. Some (xs ++ r.0 ∷ [], r.1)) = rw there refl in
      turn_fails (one_more_behind after item) count i xs ts total lt so_far e (item us) (λ r. Some (xs ++ r.0 ∷ [], r.1)) step failed

  -- no lead: this is the whole
  pub entries_stop : after ts ≡ None → total ≡ Some (xs, ts)
  unfolding one_more_behind
  entries_stop none =
      let step : one_more_behind after item xs ts ≡ None = rw none refl in
      turn_stops (one_more_behind after item) count i xs ts total lt so_far step
