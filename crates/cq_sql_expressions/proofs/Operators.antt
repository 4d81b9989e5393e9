-- Chains of operators and sums are read exactly.
use Rattle.std.proofs.Common.{◌≡◌, ℕ, zero, suc, ◌≤◌, List, [], ◌∷◌, ◌++◌, length, Option, Some, None, refl, sym, ap, ap₂, ◌∙◌, arith, ◌⊎◌, inl, inr}
use Rattle.std.specs.Prelude.{fold}
use Rattle.std.specs.Option.{option_map}
use Rattle.std.proofs.lemmas.Bool.{and_from, and_parts}
use Rattle.std.proofs.lemmas.List.Sums.{fold-append}
use Rattle.cq_sql_language.specs.declared.token.Keyword.TheVariants as keywords
use Rattle.cq_sql_language.specs.declared.token.Symbol.TheVariants as symbols
use Rattle.cq_sql_language.specs.declared.token.Token.{Token}
use Rattle.cq_sql_language.specs.declared.token.Token.TheVariants as tokens
use Rattle.cq_sql_language.specs.declared.written.Sign.{Sign}
use Rattle.cq_sql_language.specs.declared.written.Sign.TheVariants as signs
use Rattle.cq_sql_language.specs.Written.{Written, Times, Plus, Minus, And, Or, signed}
use Rattle.cq_sql_language.specs.Expression.{fits, is_in_order}
use Rattle.cq_sql_language.specs.Spelling.{spelled}
use Rattle.cq_sql_expressions.specs.declared.separators.Operator.{Operator}
use Rattle.cq_sql_expressions.specs.declared.separators.Operator.TheVariants as operators
use Rattle.cq_sql_expressions.specs.declared.separators.Separator.TheVariants as separators
use Rattle.cq_sql_expressions.specs.Read.{◌>>=◌, Reader}
use Rattle.cq_sql_expressions.specs.Lists.{chain_from, one_more_behind}
use Rattle.cq_sql_expressions.specs.Chains.{after_separator, sign_at, join, separated_part, more_parts, joined_at, signed_term, more_terms}
use Rattle.cq_sql_expressions.specs.Expressions.{Inside, product_of, sum_of}
use Rattle.cq_sql_expressions.proofs.Exact.{Takes, keyword_takes, symbol_takes}
use Rattle.cq_sql_expressions.proofs.Chains.{goes_on, breaks, stops}
use Rattle.cq_sql_expressions.proofs.Tight.{joint, joint_in, Fits, from_fits, to_fits, ReadsTight}
use Rattle.cq_sql_expressions.proofs.ChainReads.{Step, IsChain, read_chain, chain_reads}
use Rattle.cq_sql_expressions.proofs.Levels.{by_same_reader}
use Rattle.std.proofs.lemmas.Option.{some_pair_parts}

-- the token of an operator
abbrev operator_token : Operator → Token
operator_token operators.Times = tokens.Symbol symbols.Star
operator_token operators.And = tokens.Keyword keywords.And
operator_token operators.Or = tokens.Keyword keywords.Or

-- the tightness of a chain of the operator
abbrev pub operator_level : Operator → ℕ
operator_level operators.Times = 5
operator_level operators.And = 1
operator_level operators.Or = 0

-- one more part, joined to what was read before
abbrev joined_part : Operator → Reader Written → Step
joined_part operator part w ts = option_map (λ us. part us >>= λ r. Some (join operator w r.0, r.1)) (after_separator (separators.Operator operator) ts)

-- `after_separator` takes the token of its operator and nothing else
separator_takes : (operator : Operator) → Takes (operator_token operator) (after_separator (separators.Operator operator))
separator_takes operators.Times = symbol_takes symbols.Star
separator_takes operators.And = keyword_takes keywords.And
separator_takes operators.Or = keyword_takes keywords.Or

-- parts that were collected and then joined, at a turn
joined_turn : (operator : Operator) (part : Reader Written) (n : ℕ) (first : Written) (ws : List Written) (ts : List Token) (after : Option (List Token)) → after_separator (separators.Operator operator) ts ≡ after
    → ((vs : List Written) (us : List Token) → (chain_from (separated_part (separators.Operator operator) part) n vs us >>= λ r. Some (fold (join operator) first r.0, r.1)) ≡ chain_from (joined_part operator part) n (fold (join operator) first vs) us)
    → (chain_from (separated_part (separators.Operator operator) part) (suc n) ws ts >>= λ r. Some (fold (join operator) first r.0, r.1)) ≡ chain_from (joined_part operator part) (suc n) (fold (join operator) first ws) ts
unfolding one_more_behind
joined_turn operator part n first ws ts None there again =
    let collected : separated_part (separators.Operator operator) part ws ts ≡ None = rw there refl in
    let joined : joined_part operator part (fold (join operator) first ws) ts ≡ None = rw there refl in
    rw (stops (separated_part (separators.Operator operator) part) (suc n) ws ts collected, stops (joined_part operator part) (suc n) (fold (join operator) first ws) ts joined) refl
joined_turn operator part n first ws ts (Some us) there again = by_part (part us) refl where
  by_part : (read : Option (Written × List Token)) → part us ≡ read
      → (chain_from (separated_part (separators.Operator operator) part) (suc n) ws ts >>= λ r. Some (fold (join operator) first r.0, r.1)) ≡ chain_from (joined_part operator part) (suc n) (fold (join operator) first ws) ts
  by_part None is =
      let collected : separated_part (separators.Operator operator) part ws ts ≡ Some None = rw (there, is) refl in
      let joined : joined_part operator part (fold (join operator) first ws) ts ≡ Some None = rw (there, is) refl in
      rw (breaks (separated_part (separators.Operator operator) part) n ws ts collected, breaks (joined_part operator part) n (fold (join operator) first ws) ts joined) refl
  by_part (Some (x, vs)) is =
      let collected : separated_part (separators.Operator operator) part ws ts ≡ Some (Some (ws ++ x ∷ [], vs)) = rw (there, is) refl in
      let joined : joined_part operator part (fold (join operator) first ws) ts ≡ Some (Some (join operator (fold (join operator) first ws) x, vs)) = rw (there, is) refl in
      let pushed : fold (join operator) first (ws ++ x ∷ []) ≡ join operator (fold (join operator) first ws) x = fold-append (join operator) first ws (x ∷ []) in
      rw (goes_on (separated_part (separators.Operator operator) part) n ws (ws ++ x ∷ []) ts vs collected, goes_on (joined_part operator part) n (fold (join operator) first ws) (join operator (fold (join operator) first ws) x) ts vs joined)
      (again (ws ++ x ∷ []) vs ∙ ap (λ (w : Written). chain_from (joined_part operator part) n w vs) pushed)

-- parts that were collected and then joined are a chain of joined parts
joined_from : (operator : Operator) (part : Reader Written) (n : ℕ) (first : Written) (ws : List Written) (ts : List Token)
    → (chain_from (separated_part (separators.Operator operator) part) n ws ts >>= λ r. Some (fold (join operator) first r.0, r.1)) ≡ chain_from (joined_part operator part) n (fold (join operator) first ws) ts
unfolding chain_from
joined_from operator part zero first ws ts = refl
joined_from operator part (suc n) first ws ts = joined_turn operator part n first ws ts (after_separator (separators.Operator operator) ts) refl (λ vs us. joined_from operator part n first vs us)

-- a chain of an operator, as a chain of joined parts
joined_same : (operator : Operator) (part : Reader Written) (ts : List Token) → joined_at operator part ts ≡ read_chain part (joined_part operator part) ts
unfolding joined_at more_parts
joined_same operator part ts = by_part (part ts) where
  by_part : (read : Option (Written × List Token))
      → (read >>= λ r. (chain_from (separated_part (separators.Operator operator) part) (length r.1) [] r.1 >>= λ q. Some (fold (join operator) r.0 q.0, q.1))) ≡ (read >>= λ r. chain_from (joined_part operator part) (length r.1) r.0 r.1)
  by_part None = refl
  by_part (Some (x, us)) = joined_from operator part (length us) x [] us

-- where a chain of an operator may end, its token doesn't follow
no_separator : (operator : Operator) (ts : List Token) → joint_in ts ≤ operator_level operator → after_separator (separators.Operator operator) ts ≡ None
no_separator operators.Times [] end = refl
no_separator operators.Times (tokens.Symbol symbols.Star ∷ ts) end = absurd (omega (arith, end))
no_separator operators.Times (t ∷ ts) end = refl
no_separator operators.And [] end = refl
no_separator operators.And (tokens.Keyword keywords.And ∷ ts) end = absurd (omega (arith, end))
no_separator operators.And (t ∷ ts) end = refl
no_separator operators.Or [] end = refl
no_separator operators.Or (tokens.Keyword keywords.Or ∷ ts) end = absurd (omega (arith, end))
no_separator operators.Or (t ∷ ts) end = refl

-- a chain of an operator is in order where its parts are
join_fits : (operator : Operator) (a b : Written) → Fits (operator_level operator) a → Fits (suc (operator_level operator)) b → Fits (operator_level operator) (join operator a b)
join_fits operators.Times a b left right = (omega arith, and_from (fits 5 a (is_in_order a)) (fits 6 b (is_in_order b)) (to_fits 5 a left) (to_fits 6 b right))
join_fits operators.And a b left right = (omega arith, and_from (fits 1 a (is_in_order a)) (fits 2 b (is_in_order b)) (to_fits 1 a left) (to_fits 2 b right))
join_fits operators.Or a b left right = (omega arith, and_from (is_in_order a) (fits 1 b (is_in_order b)) left.1 (to_fits 1 b right))

-- an expression of the tightness of a chain is one part, or a chain and a part
join_splits : (operator : Operator) (w : Written) → Fits (operator_level operator) w
    → Fits (suc (operator_level operator)) w ⊎ (Unit {0} × (a b : Written) × (w ≡ join operator a b) × Fits (operator_level operator) a × Fits (suc (operator_level operator)) b)
join_splits operators.Times (Times a b) fit =
    let p = and_parts (fits 5 a (is_in_order a)) (fits 6 b (is_in_order b)) fit.1 in
    inr (tt, a, b, refl, from_fits 5 a p.0, from_fits 6 b p.1)
join_splits operators.Times w fit = inl (omega (arith, fit.0), fit.1)
join_splits operators.And (And a b) fit =
    let p = and_parts (fits 1 a (is_in_order a)) (fits 2 b (is_in_order b)) fit.1 in
    inr (tt, a, b, refl, from_fits 1 a p.0, from_fits 2 b p.1)
join_splits operators.And w fit = inl (omega (arith, fit.0), fit.1)
join_splits operators.Or (Or a b) fit =
    let p = and_parts (is_in_order a) (fits 1 b (is_in_order b)) fit.1 in
    inr (tt, a, b, refl, (omega arith, p.0), from_fits 1 b p.1)
join_splits operators.Or w fit = inl (omega (arith, fit.0), fit.1)

-- a chain of an operator is spelled with its token between the parts
join_spelled : (operator : Operator) (a b : Written) → spelled (join operator a b) ≡ spelled a ++ operator_token operator ∷ spelled b
join_spelled operators.Times a b = refl
join_spelled operators.And a b = refl
join_spelled operators.Or a b = refl

-- the token of an operator ends a part of its chain
join_tight : (operator : Operator) → joint (operator_token operator) ≤ suc (operator_level operator)
join_tight operators.Times = omega arith
join_tight operators.And = omega arith
join_tight operators.Or = omega arith

-- one more part, joined to what was read before, as its token and what follows
joined_back : (operator : Operator) (part : Reader Written) (w : Written) (ts : List Token) (read : Option (Written × List Token)) (after : Option (List Token)) → after_separator (separators.Operator operator) ts ≡ after
    → option_map (λ us. part us >>= λ r. Some (join operator w r.0, r.1)) after ≡ Some read
    → Unit {0} × (us : List Token) × (ts ≡ operator_token operator ∷ us) × (read ≡ (part us >>= λ r. Some (join operator w r.0, r.1)))
joined_back operator part w ts read None there e = absurd (cc e)
joined_back operator part w ts read (Some us) there e =
    let takes = separator_takes operator in
    (tt, us, takes.only ts us there, sym (cc e))

-- the parts with an operator between them make a chain
operator_chain : (operator : Operator) (part : Reader Written) → IsChain (operator_level operator) (λ (l : Unit {0}). operator_token operator) (λ l. join operator) part (joined_part operator part)
operator_chain operator part = record {
  spells = λ l a b. join_spelled operator a b;
  goes = λ l w us. let takes = separator_takes operator in rw (takes.found us) refl;
  ends = λ w ts end. rw (no_separator operator ts end) refl;
  back = λ w ts read e. joined_back operator part w ts read (after_separator (separators.Operator operator) ts) refl e;
  makes = λ l a b left right. join_fits operator a b left right;
  splits = λ w fit. join_splits operator w fit;
  tight = λ l. join_tight operator;
}

-- chains of an operator are read exactly, where their parts are
pub joined_reads : (size : ℕ) (operator : Operator) (part : Reader Written) → ReadsTight size (suc (operator_level operator)) part → ReadsTight size (operator_level operator) (joined_at operator part)
joined_reads size operator part reads =
    by_same_reader (chain_reads size (operator_level operator) (λ (l : Unit {0}). operator_token operator) (λ l. join operator) part (joined_part operator part) reads (operator_chain operator part)) (λ ts. joined_same operator part ts)

-- the token of a sign
abbrev sign_token : Sign → Token
sign_token signs.Plus = tokens.Symbol symbols.Plus
sign_token signs.Minus = tokens.Symbol symbols.Minus

-- the token of a sign is read as it
sign_found : (sign : Sign) (us : List Token) → sign_at (sign_token sign ∷ us) ≡ Some (sign, us)
sign_found signs.Plus us = refl
sign_found signs.Minus us = refl

-- what is read as a sign is its token
sign_only : (ts : List Token) (sign : Sign) (us : List Token) → sign_at ts ≡ Some (sign, us) → ts ≡ sign_token sign ∷ us
sign_only (tokens.Symbol symbols.Plus ∷ ts) sign us e =
    let p = some_pair_parts signs.Plus sign ts us e in
    ap₂ (λ (s : Sign) (vs : List Token). sign_token s ∷ vs) p.0 p.1
sign_only (tokens.Symbol symbols.Minus ∷ ts) sign us e =
    let p = some_pair_parts signs.Minus sign ts us e in
    ap₂ (λ (s : Sign) (vs : List Token). sign_token s ∷ vs) p.0 p.1
sign_only ts sign us e = absurd cc

-- where a sum may end, no sign follows
no_sign : (ts : List Token) → joint_in ts ≤ 4 → sign_at ts ≡ None
no_sign [] end = refl
no_sign (tokens.Symbol symbols.Plus ∷ ts) end = absurd (omega (arith, end))
no_sign (tokens.Symbol symbols.Minus ∷ ts) end = absurd (omega (arith, end))
no_sign (t ∷ ts) end = refl

-- a sum is in order where its terms are
sum_fits : (sign : Sign) (a b : Written) → Fits 4 a → Fits 5 b → Fits 4 (signed sign a b)
sum_fits signs.Plus a b left right = (omega arith, and_from (fits 4 a (is_in_order a)) (fits 5 b (is_in_order b)) (to_fits 4 a left) (to_fits 5 b right))
sum_fits signs.Minus a b left right = (omega arith, and_from (fits 4 a (is_in_order a)) (fits 5 b (is_in_order b)) (to_fits 4 a left) (to_fits 5 b right))

-- a sum is one term, or a sum and a term with its sign
sum_splits : (w : Written) → Fits 4 w → Fits 5 w ⊎ ((sign : Sign) × (a b : Written) × (w ≡ signed sign a b) × Fits 4 a × Fits 5 b)
sum_splits (Plus a b) fit =
    let p = and_parts (fits 4 a (is_in_order a)) (fits 5 b (is_in_order b)) fit.1 in
    inr (signs.Plus, a, b, refl, from_fits 4 a p.0, from_fits 5 b p.1)
sum_splits (Minus a b) fit =
    let p = and_parts (fits 4 a (is_in_order a)) (fits 5 b (is_in_order b)) fit.1 in
    inr (signs.Minus, a, b, refl, from_fits 4 a p.0, from_fits 5 b p.1)
sum_splits w fit = inl (omega (arith, fit.0), fit.1)

-- a sum is spelled with its sign between the terms
sum_spelled : (sign : Sign) (a b : Written) → spelled (signed sign a b) ≡ spelled a ++ sign_token sign ∷ spelled b
sum_spelled signs.Plus a b = refl
sum_spelled signs.Minus a b = refl

-- a sign ends a term
sign_tight : (sign : Sign) → joint (sign_token sign) ≤ 5
sign_tight signs.Plus = omega arith
sign_tight signs.Minus = omega arith

-- one more term, as its sign and what follows
signed_back : (term : Reader Written) (w : Written) (ts : List Token) (read : Option (Written × List Token)) (after : Option (Sign × List Token)) → sign_at ts ≡ after
    → option_map (λ s. term s.1 >>= λ r. Some (signed s.0 w r.0, r.1)) after ≡ Some read
    → (sign : Sign) × (us : List Token) × (ts ≡ sign_token sign ∷ us) × (read ≡ (term us >>= λ r. Some (signed sign w r.0, r.1)))
signed_back term w ts read None there e = absurd (cc e)
signed_back term w ts read (Some (sign, us)) there e = (sign, us, sign_only ts sign us there, sym (cc e))

-- the terms with signs between them make a chain
sum_chain : (term : Reader Written) → IsChain 4 sign_token signed term (signed_term term)
unfolding signed_term
sum_chain term = record {
  spells = λ sign a b. sum_spelled sign a b;
  goes = λ sign w us. rw (sign_found sign us) refl;
  ends = λ w ts end. rw (no_sign ts end) refl;
  back = λ w ts read e. signed_back term w ts read (sign_at ts) refl e;
  makes = λ sign a b left right. sum_fits sign a b left right;
  splits = λ w fit. sum_splits w fit;
  tight = λ sign. sign_tight sign;
}

-- sums are read exactly, where their terms are
pub sum_reads : (size : ℕ) (inside : Inside) → ReadsTight size 5 (product_of inside) → ReadsTight size 4 (sum_of inside)
unfolding sum_of more_terms
sum_reads size inside reads =
    by_same_reader (chain_reads size 4 sign_token signed (product_of inside) (signed_term (product_of inside)) reads (sum_chain (product_of inside))) (λ ts. refl)
