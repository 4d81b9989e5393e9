-- Values and tests of them are read exactly, where sums are.
use Rattle.std.proofs.Common.{◌≡◌, ℕ, zero, suc, ◌≤◌, ◌<◌, Bool, true, false, List, [], ◌∷◌, ◌++◌, length, Some, None, refl, sym, ap, ap₂, ◌∙◌, append_assoc, arith, length-append}
use Rattle.std.proofs.lemmas.Bool.{and_parts}
use Rattle.std.proofs.lemmas.List.{append-nil}
use Rattle.cq_values.specs.declared.comparison.Comparison.{Comparison}
use Rattle.cq_values.specs.declared.comparison.Comparison.TheVariants as comparisons
use Rattle.cq_sql_language.specs.declared.token.Keyword.{Keyword}
use Rattle.cq_sql_language.specs.declared.token.Keyword.TheVariants as keywords
use Rattle.cq_sql_language.specs.declared.token.Symbol.{Symbol}
use Rattle.cq_sql_language.specs.declared.token.Symbol.TheVariants as symbols
use Rattle.cq_sql_language.specs.declared.token.Token.{Token}
use Rattle.cq_sql_language.specs.declared.token.Token.TheVariants as tokens
use Rattle.cq_sql_language.specs.Written.{Written, Choices, NoChoice, Choice, choices}
use Rattle.cq_sql_language.specs.Expression.{fits, is_in_order, are_in_order}
use Rattle.cq_sql_language.specs.Spelling.{spelled, spelled_more, comparison_sign, not_tokens}
use Rattle.cq_sql_expressions.specs.declared.separators.Separator.TheVariants as separators
use Rattle.cq_sql_expressions.specs.declared.predicates.Test.{Test}
use Rattle.cq_sql_expressions.specs.declared.predicates.Test.TheVariants as tests
use Rattle.cq_sql_expressions.specs.Read.{◌>>=◌, Reader, after_symbol}
use Rattle.cq_sql_expressions.specs.Lists.{chain_from, one_more_behind}
use Rattle.cq_sql_expressions.specs.Chains.{separated_part}
use Rattle.cq_sql_expressions.specs.Predicates.{comparison_of, worded, test_at}
use Rattle.cq_sql_expressions.proofs.Exact.{bind_some}
use Rattle.cq_sql_expressions.proofs.Chains.{goes_on, stops}
use Rattle.cq_sql_expressions.proofs.Tight.{joint_in, from_fits, ReadsTight}
use Rattle.std.proofs.lemmas.Option.{some_pair_parts}

-- the sign of a comparison stands for it
comparison_found : (op : Comparison) → comparison_of (comparison_sign op) ≡ Some op
comparison_found comparisons.Equal = refl
comparison_found comparisons.NotEqual = refl
comparison_found comparisons.Less = refl
comparison_found comparisons.LessOrEqual = refl
comparison_found comparisons.Greater = refl
comparison_found comparisons.GreaterOrEqual = refl

-- no other sign stands for a comparison
comparison_only : (s : Symbol) (op : Comparison) → comparison_of s ≡ Some op → s ≡ comparison_sign op
comparison_only symbols.Equal op e = let same : comparisons.Equal ≡ op = cc in ap comparison_sign same
comparison_only symbols.NotEqual op e = let same : comparisons.NotEqual ≡ op = cc in ap comparison_sign same
comparison_only symbols.Less op e = let same : comparisons.Less ≡ op = cc in ap comparison_sign same
comparison_only symbols.LessOrEqual op e = let same : comparisons.LessOrEqual ≡ op = cc in ap comparison_sign same
comparison_only symbols.Greater op e = let same : comparisons.Greater ≡ op = cc in ap comparison_sign same
comparison_only symbols.GreaterOrEqual op e = let same : comparisons.GreaterOrEqual ≡ op = cc in ap comparison_sign same
comparison_only s op e = absurd cc

-- the first tokens of a test
abbrev pub test_tokens : Test → List Token
test_tokens (tests.Compare op) = tokens.Symbol (comparison_sign op) ∷ []
test_tokens (tests.IsNull negated) = tokens.Keyword keywords.Is ∷ not_tokens negated ++ tokens.Keyword keywords.Null ∷ []
test_tokens (tests.Between negated) = not_tokens negated ++ tokens.Keyword keywords.Between ∷ []
test_tokens (tests.In negated) = not_tokens negated ++ tokens.Keyword keywords.In ∷ []
test_tokens (tests.Like negated) = not_tokens negated ++ tokens.Keyword keywords.Like ∷ []

-- a test is read from its first tokens
pub test_found : (test : Test) (us : List Token) → test_at (test_tokens test ++ us) ≡ Some (test, us)
test_found (tests.Compare op) us = rw (comparison_found op) refl
test_found (tests.IsNull true) us = refl
test_found (tests.IsNull false) us = refl
test_found (tests.Between true) us = refl
test_found (tests.Between false) us = refl
test_found (tests.In true) us = refl
test_found (tests.In false) us = refl
test_found (tests.Like true) us = refl
test_found (tests.Like false) us = refl

-- a sum ends in front of a test
pub test_ends : (test : Test) (us : List Token) → joint_in (test_tokens test ++ us) ≤ 4
test_ends (tests.Compare comparisons.Equal) us = omega arith
test_ends (tests.Compare comparisons.NotEqual) us = omega arith
test_ends (tests.Compare comparisons.Less) us = omega arith
test_ends (tests.Compare comparisons.LessOrEqual) us = omega arith
test_ends (tests.Compare comparisons.Greater) us = omega arith
test_ends (tests.Compare comparisons.GreaterOrEqual) us = omega arith
test_ends (tests.IsNull negated) us = omega arith
test_ends (tests.Between true) us = omega arith
test_ends (tests.Between false) us = omega arith
test_ends (tests.In true) us = omega arith
test_ends (tests.In false) us = omega arith
test_ends (tests.Like true) us = omega arith
test_ends (tests.Like false) us = omega arith

-- where a value may end, no test follows
pub no_test : (ts : List Token) → joint_in ts ≤ 3 → test_at ts ≡ None
no_test [] end = refl
no_test (tokens.Symbol symbols.Equal ∷ ts) end = absurd (omega (arith, end))
no_test (tokens.Symbol symbols.NotEqual ∷ ts) end = absurd (omega (arith, end))
no_test (tokens.Symbol symbols.Less ∷ ts) end = absurd (omega (arith, end))
no_test (tokens.Symbol symbols.LessOrEqual ∷ ts) end = absurd (omega (arith, end))
no_test (tokens.Symbol symbols.Greater ∷ ts) end = absurd (omega (arith, end))
no_test (tokens.Symbol symbols.GreaterOrEqual ∷ ts) end = absurd (omega (arith, end))
no_test (tokens.Keyword keywords.Is ∷ ts) end = absurd (omega (arith, end))
no_test (tokens.Keyword keywords.Not ∷ ts) end = absurd (omega (arith, end))
no_test (tokens.Keyword keywords.Between ∷ ts) end = absurd (omega (arith, end))
no_test (tokens.Keyword keywords.In ∷ ts) end = absurd (omega (arith, end))
no_test (tokens.Keyword keywords.Like ∷ ts) end = absurd (omega (arith, end))
no_test (t ∷ ts) end = refl

-- the word of a test, with or without NOT, are its tokens
worded_only : (negated : Bool) (word : Keyword) (test : Test) → worded negated word ≡ Some test → not_tokens negated ++ tokens.Keyword word ∷ [] ≡ test_tokens test
worded_only negated keywords.Between test e = let same : tests.Between negated ≡ test = cc in ap test_tokens same
worded_only negated keywords.In test e = let same : tests.In negated ≡ test = cc in ap test_tokens same
worded_only negated keywords.Like test e = let same : tests.Like negated ≡ test = cc in ap test_tokens same
worded_only negated word test e = absurd cc

-- the tokens of a test's word, in front of what follows
worded_whole : (negated : Bool) (word : Keyword) (test : Test) (ts us : List Token) → ◌>>=◌ {A = Test} {B = Test × List Token} (worded negated word) (λ t. Some (t, ts)) ≡ Some (test, us) → not_tokens negated ++ tokens.Keyword word ∷ ts ≡ test_tokens test ++ us
worded_whole negated word test ts us e =
    let b = bind_some (worded negated word) (λ t. Some (t, ts)) (test, us) e in
    let p = some_pair_parts b.0 test ts us b.2 in
    let first : not_tokens negated ++ tokens.Keyword word ∷ [] ≡ test_tokens test = worded_only negated word b.0 b.1 ∙ ap test_tokens p.0 in
    sym (append_assoc (not_tokens negated) (tokens.Keyword word ∷ []) ts) ∙ ap₂ (λ (vs ws : List Token). vs ++ ws) first p.1

-- what is read as the beginning of a test are its tokens
pub test_only : (ts : List Token) (test : Test) (us : List Token) → test_at ts ≡ Some (test, us) → ts ≡ test_tokens test ++ us
test_only (tokens.Symbol s ∷ ts) test us e =
    let b = bind_some (comparison_of s) (λ op. Some (tests.Compare op, ts)) (test, us) e in
    let p = some_pair_parts (tests.Compare b.0) test ts us b.2 in
    let sign : tokens.Symbol s ∷ [] ≡ test_tokens test = ap (λ (x : Symbol). tokens.Symbol x ∷ []) (comparison_only s b.0 b.1) ∙ ap test_tokens p.0 in
    ap₂ (λ (vs ws : List Token). vs ++ ws) sign p.1
test_only (tokens.Keyword keywords.Is ∷ tokens.Keyword keywords.Null ∷ ts) test us e =
    let p = some_pair_parts (tests.IsNull false) test ts us e in
    ap₂ (λ (t : Test) (vs : List Token). test_tokens t ++ vs) p.0 p.1
test_only (tokens.Keyword keywords.Is ∷ tokens.Keyword keywords.Not ∷ tokens.Keyword keywords.Null ∷ ts) test us e =
    let p = some_pair_parts (tests.IsNull true) test ts us e in
    ap₂ (λ (t : Test) (vs : List Token). test_tokens t ++ vs) p.0 p.1
test_only (tokens.Keyword keywords.Not ∷ tokens.Keyword word ∷ ts) test us e = worded_whole true word test ts us e
test_only (tokens.Keyword word ∷ ts) test us e = worded_whole false word test ts us e
test_only ts test us e = absurd cc

-- the entries of the list behind IN
abbrev pub entries : Choices → List Written
entries NoChoice = []
entries (Choice a bs) = a ∷ entries bs

-- a list of entries is the list that it came from
pub choices_entries : (bs : Choices) → choices (entries bs) ≡ bs
choices_entries NoChoice = refl
choices_entries (Choice a bs) = ap (λ (cs : Choices). Choice a cs) (choices_entries bs)

abbrev pub comma : Token
comma = tokens.Symbol symbols.Comma

-- a sum ends in front of more entries, where it ends in front of what follows them
pub more_ends : (bs : Choices) (rest : List Token) → joint_in rest ≤ 4 → joint_in (spelled_more bs ++ rest) ≤ 4
more_ends NoChoice rest end = end
more_ends (Choice a bs) rest end = omega arith

module _ (size : ℕ) (sum : Reader Written) (reads : ReadsTight size 4 sum) where
  -- the entries behind another one are read, behind those that were read before
  pub more_found : (bs : Choices) (n : ℕ) (ws : List Written) (rest : List Token) → length (spelled_more bs) ≤ n → length (spelled_more bs) < size → are_in_order bs ≡ true → joint_in rest ≤ 4
      → after_symbol symbols.Comma rest ≡ None → chain_from (separated_part separators.Comma sum) n ws (spelled_more bs ++ rest) ≡ Some (ws ++ entries bs, rest)
  unfolding one_more_behind
  more_found NoChoice n ws rest le small order end none =
      let step : separated_part separators.Comma sum ws rest ≡ None = rw none refl in
      stops (separated_part separators.Comma sum) n ws rest step ∙ ap (λ (vs : List Written). Some (vs, rest)) (sym (append-nil ws))
  more_found (Choice a bs) zero ws rest le small order end none = absurd (omega (arith, le))
  more_found (Choice a bs) (suc n) ws rest le small order end none =
      let p = and_parts (fits 4 a (is_in_order a)) (are_in_order bs) order in
      let count = length-append (spelled a) (spelled_more bs) in
      let whole : (spelled a ++ spelled_more bs) ++ rest ≡ spelled a ++ (spelled_more bs ++ rest) = append_assoc (spelled a) (spelled_more bs) rest in
      let read : sum ((spelled a ++ spelled_more bs) ++ rest) ≡ Some (a, spelled_more bs ++ rest) = ap sum whole ∙ reads.found a (spelled_more bs ++ rest) (from_fits 4 a p.0) (omega (arith, count, small)) (more_ends bs rest end) in
      let step : separated_part separators.Comma sum ws (comma ∷ ((spelled a ++ spelled_more bs) ++ rest)) ≡ Some (Some (ws ++ a ∷ [], spelled_more bs ++ rest)) = rw read refl in
      goes_on (separated_part separators.Comma sum) n ws (ws ++ a ∷ []) (comma ∷ ((spelled a ++ spelled_more bs) ++ rest)) (spelled_more bs ++ rest) step
      ∙ more_found bs n (ws ++ a ∷ []) rest (omega (arith, count, le)) (omega (arith, count, small)) p.1 end none
      ∙ ap (λ (vs : List Written). Some (vs, rest)) (append_assoc ws (a ∷ []) (entries bs))
