-- Chains of parts: how a turn goes, and what a chain reads.
use Rattle.std.proofs.Common.{◌≡◌, ℕ, zero, suc, ◌-◌, ◌+◌, ◌<◌, List, Option, Some, None, refl, sym, ap, ◌∙◌, arith}
use Rattle.cq_sql_language.specs.declared.token.Token.{Token}
use Rattle.cq_sql_expressions.specs.declared.fault.SqlFault.{SqlFault}
use Rattle.cq_sql_expressions.specs.declared.fault.SqlFault.TheVariants as errors
use Rattle.cq_sql_expressions.specs.Gives.{Fails}
use Rattle.cq_sql_expressions.specs.Read.{◌>>=◌}
use Rattle.cq_sql_expressions.specs.Lists.{chain_from}

-- a chain of any parts
module _ {W : Type 0} (next : W → List Token → Option (Option (W × List Token))) where
  -- a separator and a part behind it: the chain goes on there
  pub goes_on : (n : ℕ) (w v : W) (ts us : List Token) → next w ts ≡ Some (Some (v, us)) → chain_from next (suc n) w ts ≡ chain_from next n v us
  unfolding chain_from
  goes_on n w v ts us h = rw h refl

  -- a separator and no part behind it: there is no chain
  pub breaks : (n : ℕ) (w : W) (ts : List Token) → next w ts ≡ Some None → chain_from next (suc n) w ts ≡ None
  unfolding chain_from
  breaks n w ts h = rw h refl

  -- no separator: the chain ends
  pub stops : (n : ℕ) (w : W) (ts : List Token) → next w ts ≡ None → chain_from next n w ts ≡ Some (w, ts)
  unfolding chain_from
  stops zero w ts h = refl
  stops (suc n) w ts h = rw h refl

  -- with no turn left the chain ends
  pub runs_out : (n : ℕ) (w : W) (ts : List Token) → n ≡ 0 → chain_from next n w ts ≡ Some (w, ts)
  unfolding chain_from
  runs_out zero w ts e = refl
  runs_out (suc n) w ts e = absurd (omega arith)

  -- the same, for a loop with turns from i up to count
  module _ (count i : ℕ) (w : W) (ts : List Token) (total : Option (W × List Token)) (lt : i < count) (so_far : chain_from next (count - i) w ts ≡ total) where
    -- what the turns from the next one on read
    one_turn : count - i ≡ suc (count - (i + 1))
    one_turn = omega arith

    -- after a turn that read a part the rest is still read
    pub turn_goes_on : (v : W) (us : List Token) → next w ts ≡ Some (Some (v, us)) → chain_from next (count - (i + 1)) v us ≡ total
    turn_goes_on v us h = sym (goes_on (count - (i + 1)) w v ts us h) ∙ ap (λ (n : ℕ). chain_from next n w ts) (sym one_turn) ∙ so_far

    -- after a turn that read no part there is no chain
    pub turn_breaks : next w ts ≡ Some None → total ≡ None
    turn_breaks h = sym so_far ∙ ap (λ (n : ℕ). chain_from next n w ts) one_turn ∙ breaks (count - (i + 1)) w ts h

    -- after a turn whose part failed, the chain fails in the same way
    pub turn_fails : {X : Type 0} (e : SqlFault) (read : Option X) (f : X → Option (W × List Token)) → next w ts ≡ Some (read >>= f) → Fails e read → Fails e total
    turn_fails errors.Memory read f step h = tt
    turn_fails errors.Syntax read f step h = turn_breaks (step ∙ rw h refl)
    turn_fails errors.LimitExceeded read f step h = absurd h

    -- a turn that finds no separator ends the chain
    pub turn_stops : next w ts ≡ None → total ≡ Some (w, ts)
    turn_stops h = sym so_far ∙ stops (count - i) w ts h
