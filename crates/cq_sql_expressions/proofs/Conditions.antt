-- Conditions and whole expressions are read exactly, and a list of tokens is at most one expression.
use Rattle.std.proofs.Common.{◌≡◌, Result, Ok, Err, ℕ, zero, suc, ◌≤◌, ◌<◌, List, [], ◌∷◌, ◌++◌, length, Option, Some, None, refl, sym, ap, subst, ◌∙◌, arith, length-append}
use Rattle.std.specs.Prelude.{IfOk}
use Rattle.std.proofs.lemmas.List.{append-nil}
use Rattle.cq_sql_language.specs.declared.token.Keyword.TheVariants as keywords
use Rattle.cq_sql_language.specs.declared.token.Token.{Token}
use Rattle.cq_sql_language.specs.declared.token.Token.TheVariants as tokens
use Rattle.cq_sql_language.specs.declared.written.ExprNode.{ExprNode}
use Rattle.cq_sql_language.specs.Written.{Written, Not, written}
use Rattle.cq_sql_language.specs.Expression.{IsTight, IsExpression}
use Rattle.cq_sql_language.specs.Spelling.{spelled}
use Rattle.cq_sql_expressions.specs.declared.separators.Operator.TheVariants as operators
use Rattle.cq_sql_expressions.specs.declared.fault.SqlFault.{SqlFault}
use Rattle.cq_sql_expressions.specs.declared.fault.SqlFault.TheVariants as errors
use Rattle.cq_sql_expressions.specs.Gives.{Gives}
use Rattle.cq_sql_expressions.specs.Read.{Reader, after_keyword}
use Rattle.cq_sql_expressions.specs.Chains.{joined_at}
use Rattle.cq_sql_expressions.specs.Expressions.{Inside, primary_of, factor_of, product_of, sum_of, predicate_of, negation_of, operand_of, expression_of, prefixed, readers, expression_at, if_no_more, whole_expression}
use Rattle.cq_sql_expressions.proofs.Exact.{Reads, bind_some, keyword_takes}
use Rattle.cq_sql_expressions.proofs.Tight.{joint_in, Fits, from_fits, to_fits, ReadsTight}
use Rattle.cq_sql_expressions.proofs.Primaries.{ReadsInside, primary_reads}
use Rattle.cq_sql_expressions.proofs.Levels.{factor_reads, prefixed_reads}
use Rattle.cq_sql_expressions.proofs.Operators.{joined_reads, sum_reads}
use Rattle.cq_sql_expressions.proofs.PredicateReads.{predicate_reads}

-- no predicate begins with NOT
no_predicate : (inside : Inside) (us : List Token) → predicate_of inside (tokens.Keyword keywords.Not ∷ us) ≡ None
unfolding predicate_of sum_of product_of joined_at factor_of primary_of
no_predicate inside us = refl

module _ (size : ℕ) (inside : Inside) (reads : ReadsTight size 3 (predicate_of inside)) where
  -- a predicate alone is read, for NOT does not begin it
  plain_found : (w : Written) (rest : List Token) (after : Option (List Token)) → after_keyword keywords.Not (spelled w ++ rest) ≡ after → Fits 3 w → length (spelled w) < size → joint_in rest ≤ 2
      → prefixed Not (predicate_of inside) (spelled w ++ rest) after ≡ Some (w, rest)
  plain_found w rest None there fit small end = reads.found w rest fit small (omega (arith, end))
  plain_found w rest (Some us) there fit small end =
      let takes = keyword_takes keywords.Not in
      let read = reads.found w rest fit small (omega (arith, end)) in
      let bad : ◌≡◌ {A = Option (Written × List Token)} None (Some (w, rest)) = sym (no_predicate inside us) ∙ ap (predicate_of inside) (sym (takes.only (spelled w ++ rest) us there)) ∙ read in
      absurd (cc bad)

  -- a predicate, with or without NOT, is read
  negation_found : (w : Written) (rest : List Token) → Fits 2 w → length (spelled w) < size → joint_in rest ≤ 2 → negation_of inside (spelled w ++ rest) ≡ Some (w, rest)
  unfolding negation_of
  negation_found (Not a) rest fit small end = rw (reads.found a rest (from_fits 3 a fit.1) (omega (arith, small)) (omega (arith, end))) refl
  negation_found w rest fit small end = plain_found w rest (after_keyword keywords.Not (spelled w ++ rest)) refl (omega (arith, fit.0), fit.1) small end

  -- predicates with or without NOT are read exactly
  pub negation_reads : ReadsTight size 2 (negation_of inside)
  unfolding negation_of
  negation_reads = prefixed_reads Not (keyword_takes keywords.Not) reads (λ w fit. (omega (arith, fit.0), fit.1)) (λ a fit. (omega arith, to_fits 3 a fit)) (λ a. refl) negation_found

module _ (size : ℕ) (inside : Inside) (reads : ReadsInside size inside) where
  -- sums are read exactly, one pair of parentheses further out
  pub outer_sum : ReadsTight (suc size) 4 (sum_of inside)
  unfolding product_of
  outer_sum =
      let factors = factor_reads (suc size) inside (primary_reads size inside reads) in
      sum_reads (suc size) inside (joined_reads (suc size) operators.Times (factor_of inside) factors)

  -- expressions are read exactly, one pair of parentheses further out
  pub outer_expression : ReadsTight (suc size) 0 (expression_of inside)
  unfolding operand_of expression_of
  outer_expression =
      let negations = negation_reads (suc size) inside (predicate_reads size inside reads.sum outer_sum) in
      joined_reads (suc size) operators.Or (joined_at operators.And (negation_of inside)) (joined_reads (suc size) operators.And (negation_of inside) negations)

-- what stands in parentheses is read exactly, by as many pairs as it has tokens
readers_reads : (n : ℕ) → ReadsInside n (readers n)
unfolding readers
readers_reads zero = record {
  expression = record { found = λ w rest fit small end. absurd (omega (arith, small)); only = λ w ts rest e. absurd (cc e) };
  sum = record { found = λ w rest fit small end. absurd (omega (arith, small)); only = λ w ts rest e. absurd (cc e) };
}
readers_reads (suc n) = record {
  expression = outer_expression n (readers n) (readers_reads n);
  sum = outer_sum n (readers n) (readers_reads n);
}

module _ (level : ℕ) (item : Inside → Reader Written) (outer : (size : ℕ) (inside : Inside) → ReadsInside size inside → ReadsTight (suc size) level (item inside)) where
  -- what is as tight as that is read, where each token may open a pair of parentheses
  tight_found : (w : Written) (front rest : List Token) → IsTight level w front → joint_in rest ≤ level → item (readers (length (front ++ rest))) (front ++ rest) ≡ Some (w, rest)
  tight_found w front rest (in_order, split) end =
      let ts = front ++ rest in
      let reads = outer (length ts) (readers (length ts)) (readers_reads (length ts)) in
      let whole : ts ≡ spelled w ++ rest = ap (λ (us : List Token). us ++ rest) split in
      let count : length (spelled w) < suc (length ts) = omega (arith, ap (λ (us : List Token). length us) whole, length-append (spelled w) rest) in
      ap (item (readers (length ts))) whole ∙ reads.found w rest (from_fits level w in_order) count end

  -- what is read is as tight as that
  tight_only : (w : Written) (ts rest : List Token) → item (readers (length ts)) ts ≡ Some (w, rest) → (front : List Token) × (ts ≡ front ++ rest) × IsTight level w front
  tight_only w ts rest e =
      let reads = outer (length ts) (readers (length ts)) (readers_reads (length ts)) in
      let o = reads.only w ts rest e in
      (spelled w, o.1, (to_fits level w o.0, refl))

-- what follows does not go on with an expression
abbrev pub EndsExpression : List Token → Type 0
EndsExpression rest = joint_in rest ≡ 0

-- expressions are read exactly, where nothing follows that goes on with them
pub expression_reads : Reads EndsExpression IsExpression expression_at
unfolding expression_at
expression_reads = record {
  found = λ w front rest h end. tight_found 0 expression_of outer_expression w front rest h (omega (arith, end));
  only = tight_only 0 expression_of outer_expression;
}

-- an expression is found in its tokens
pub whole_found : (w : Written) (ts : List Token) → IsExpression w ts → whole_expression ts ≡ Some w
unfolding whole_expression
whole_found w ts h =
    let read : expression_at ts ≡ Some (w, []) = ap expression_at (sym (append-nil ts)) ∙ expression_reads.found w ts [] h refl in
    rw read refl

-- what was read to the end are the tokens of an expression
to_the_end : (v w : Written) (ts front rest : List Token) → IsExpression v front → ts ≡ front ++ rest → if_no_more (v, rest) ≡ Some w → IsExpression w ts
to_the_end v w ts front [] h split e =
    let same : v ≡ w = cc e in
    subst (λ (x : Written). IsExpression x ts) same (subst (λ (us : List Token). IsExpression v us) (sym (split ∙ append-nil front)) h)
to_the_end v w ts front (t ∷ rest) h split e = absurd (cc e)

-- what all of the tokens are read as is an expression
pub whole_only : (w : Written) (ts : List Token) → whole_expression ts ≡ Some w → IsExpression w ts
unfolding whole_expression
whole_only w ts e =
    let b = bind_some (expression_at ts) if_no_more w e in
    let o = expression_reads.only b.0.0 ts b.0.1 b.1 in
    to_the_end b.0.0 w ts o.0 b.0.1 o.2 o.1 b.2

-- a list of tokens is at most one expression
pub one_expression : (v w : Written) (ts : List Token) → IsExpression v ts → IsExpression w ts → v ≡ w
one_expression v w ts first second =
    let both : Some v ≡ Some w = sym (whole_found v ts first) ∙ whole_found w ts second in
    cc both

-- what was returned is an expression
pub expression_read : (result : Result ExprNode SqlFault) (ts : List Token) → Gives written result (whole_expression ts) → IfOk result (λ e. IsExpression (written e) ts)
expression_read (Ok e) ts read = whole_only (written e) ts read
expression_read (Err e) ts read = tt

-- where no expression was found, there is none
pub no_expression_read : (result : Result ExprNode SqlFault) (ts : List Token) → Gives written result (whole_expression ts) → result ≡ Err errors.Syntax → (w : Written) → IsExpression w ts → ⊥
no_expression_read result ts read is w h =
    let none : whole_expression ts ≡ None = subst (λ (r : Result ExprNode SqlFault). Gives written r (whole_expression ts)) is read in
    let bad : ◌≡◌ {A = Option Written} None (Some w) = sym none ∙ whole_found w ts h in
    cc bad
