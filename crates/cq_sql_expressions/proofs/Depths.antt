-- What may be read in a pair of parentheses, by how many more pairs may open.
use Rattle.std.proofs.Common.{◌≡◌, ℕ, zero, suc, ◌-◌, ◌<◌, List, [], ◌∷◌, None, refl, ap, arith}
use Rattle.cq_sql_language.specs.declared.token.Token.{Token}
use Rattle.cq_sql_language.specs.Written.{Written}
use Rattle.cq_sql_expressions.specs.declared.atoms.Opening.{Opening}
use Rattle.cq_sql_expressions.specs.declared.atoms.Opening.TheVariants as openings
use Rattle.cq_sql_expressions.specs.declared.separators.Operator.TheVariants as operators
use Rattle.cq_sql_expressions.specs.declared.separators.Separator.TheVariants as separators
use Rattle.cq_sql_expressions.specs.Read.{Reader, followed_by}
use Rattle.cq_sql_expressions.specs.Chains.{joined_at, more_parts}
use Rattle.cq_sql_expressions.specs.Expressions.{content_of, operand_of, expression_of, sum_of, choices_of, readers}

-- where no pair of parentheses may open, nothing is read in one
pub content_shut : (depth : ℕ) (opening : Opening) (ts : List Token) → depth ≡ 0 → content_of (readers depth) opening ts ≡ None
unfolding readers
content_shut zero openings.Parens ts e = refl
content_shut zero (openings.Extract part) ts e = refl
content_shut zero (openings.Aggregate function) ts e = refl
content_shut (suc depth) opening ts e = absurd (omega (arith, e))

-- where no pair of parentheses may open, no choices are read in one
pub choices_shut : (depth : ℕ) (ts : List Token) → depth ≡ 0 → choices_of (readers depth) ts ≡ None
unfolding readers choices_of
choices_shut zero ts e = refl
choices_shut (suc depth) ts e = absurd (omega (arith, e))

-- an expression in parentheses is read with one pair less to open
pub expression_inside : (depth : ℕ) (ts : List Token) → 0 < depth → (readers depth).expression ts ≡ joined_at operators.Or (operand_of (readers (depth - 1)) operators.Or) ts
unfolding readers expression_of
expression_inside zero ts lt = absurd (omega (arith, lt))
expression_inside (suc depth) ts lt =
    let less : depth ≡ suc depth - 1 = omega arith in
    ap (λ (n : ℕ). joined_at operators.Or (operand_of (readers n) operators.Or) ts) less

-- a sum in parentheses is read with one pair less to open
pub sum_inside : (depth : ℕ) → 0 < depth → (readers depth).sum ≡ sum_of (readers (depth - 1))
unfolding readers
sum_inside zero lt = absurd (omega (arith, lt))
sum_inside (suc depth) lt =
    let less : depth ≡ suc depth - 1 = omega arith in
    ap (λ (n : ℕ). sum_of (readers n)) less

-- choices in parentheses are read with one pair less to open
pub choices_inside : (depth : ℕ) (ts : List Token) → 0 < depth
    → choices_of (readers depth) ts ≡ followed_by (sum_of (readers (depth - 1))) (λ first. more_parts separators.Comma (sum_of (readers (depth - 1))) (first ∷ [])) ts
unfolding choices_of
choices_inside depth ts lt = ap (λ (sum : Reader Written). followed_by sum (λ first. more_parts separators.Comma sum (first ∷ [])) ts) (sum_inside depth lt)
