-- Reading terms behind their signs, as a loop does.
use Rattle.std.proofs.Common.{◌≡◌, ℕ, ◌-◌, ◌+◌, ◌<◌, List, [], ◌∷◌, ◌++◌, Option, Some, None, refl, ap, ◌∙◌, length}
use Rattle.cq_sql_language.specs.declared.token.Token.{Token}
use Rattle.cq_sql_language.specs.declared.written.Sign.{Sign}
use Rattle.cq_sql_language.specs.Written.{Written, signed, terms}
use Rattle.cq_sql_expressions.specs.declared.fault.SqlFault.{SqlFault}
use Rattle.cq_sql_expressions.specs.declared.separators.Operator.TheVariants as operators
use Rattle.cq_sql_expressions.specs.Gives.{Fails}
use Rattle.cq_sql_expressions.specs.Read.{◌>>=◌, Reader}
use Rattle.cq_sql_expressions.specs.Lists.{chain_from}
use Rattle.cq_sql_expressions.specs.Chains.{sign_at, signed_term, joined_at}
use Rattle.cq_sql_expressions.specs.Expressions.{Inside, operand_of, product_of}
use Rattle.cq_sql_expressions.proofs.Chains.{turn_goes_on, turn_fails, turn_stops}
use Rattle.cq_sql_expressions.proofs.Sums.{terms_push}

-- a turn of a loop over terms, where the sum so far and what is still read make the whole
module _ (term : Reader Written) (first : Written) (signs : List Sign) (ws : List Written) (count i : ℕ) (ts : List Token) (total : Option (Written × List Token)) (lt : i < count) (so_far : chain_from (signed_term term) (count - i) (terms first signs ws) ts ≡ total) where
  -- a sign and a term: the rest is still read
  pub term_goes_on : (sign : Sign) (us vs : List Token) (x : Written) → length signs ≡ length ws → sign_at ts ≡ Some (sign, us) → term us ≡ Some (x, vs)
      → chain_from (signed_term term) (count - (i + 1)) (terms first (signs ++ sign ∷ []) (ws ++ x ∷ [])) vs ≡ total
  unfolding signed_term
  term_goes_on sign us vs x same there read =
      let step : signed_term term (terms first signs ws) ts ≡ Some (Some (signed sign (terms first signs ws) x, vs)) = rw (there, read) refl in
      ap (λ (w : Written). chain_from (signed_term term) (count - (i + 1)) w vs) (terms_push first signs ws sign x same) ∙ turn_goes_on (signed_term term) count i (terms first signs ws) ts total lt so_far (signed sign (terms first signs ws) x) vs step

  -- a sign and no term: the whole fails in the same way
  pub term_fails : (e : SqlFault) (sign : Sign) (us : List Token) → sign_at ts ≡ Some (sign, us) → Fails e (term us) → Fails e total
  unfolding signed_term
  term_fails e sign us there failed =
      let step : signed_term term (terms first signs ws) ts ≡ Some (term us >>= λ r. Some (signed sign (terms first signs ws) r.0, r.1)) = rw there refl in
      turn_fails (signed_term term) count i (terms first signs ws) ts total lt so_far e (term us) (λ r. Some (signed sign (terms first signs ws) r.0, r.1)) step failed

  -- no sign: this is the whole
  pub term_stops : sign_at ts ≡ None → total ≡ Some (terms first signs ws, ts)
  unfolding signed_term
  term_stops none =
      let step : signed_term term (terms first signs ws) ts ≡ None = rw none refl in
      turn_stops (signed_term term) count i (terms first signs ws) ts total lt so_far step

-- the reader of the terms is the reader of chains of factors
pub product_is : (inside : Inside) (ts : List Token) → joined_at operators.Times (operand_of inside operators.Times) ts ≡ product_of inside ts
unfolding product_of operand_of
product_is inside ts = refl
