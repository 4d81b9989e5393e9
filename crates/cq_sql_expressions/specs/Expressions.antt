-- How the readers of expressions go, as functions on lists: what an expression is, the model says.
use Rattle.std.specs.Prelude.{Bool, ℕ, zero, suc, List, [], ◌∷◌, length, Option, Some, None}
use Rattle.cq_sql_language.specs.declared.token.Keyword.TheVariants as keywords
use Rattle.cq_sql_language.specs.declared.token.Symbol.TheVariants as symbols
use Rattle.cq_sql_language.specs.declared.token.Token.{Token}
use Rattle.cq_sql_language.specs.Written.{Written, Negative, Compare, IsNull, Between, In, Like, Not, choices}
use Rattle.cq_sql_expressions.specs.declared.atoms.Opening.{Opening}
use Rattle.cq_sql_expressions.specs.declared.atoms.Opening.TheVariants as openings
use Rattle.cq_sql_expressions.specs.declared.separators.Operator.{Operator}
use Rattle.cq_sql_expressions.specs.declared.separators.Operator.TheVariants as operators
use Rattle.cq_sql_expressions.specs.declared.separators.Separator.{Separator}
use Rattle.cq_sql_expressions.specs.declared.separators.Separator.TheVariants as separators
use Rattle.cq_sql_expressions.specs.declared.predicates.Test.{Test}
use Rattle.cq_sql_expressions.specs.declared.predicates.Test.TheVariants as tests
use Rattle.cq_sql_expressions.specs.Read.{◌>>=◌, Reader, done, followed_by, behind, after_keyword, after_symbol}
use Rattle.cq_sql_expressions.specs.Atoms.{text_at, atom_at, opening_at}
use Rattle.cq_sql_expressions.specs.Chains.{enclosed, more_parts, joined_at, more_terms}
use Rattle.cq_sql_expressions.specs.Predicates.{test_at}

-- the readers of what may stand between two parentheses
pub record Inside : Type 0 where
  pub expression : Reader Written
  pub sum : Reader Written

-- the reader of what stands behind this opening
abbrev pub content_of : Inside → Opening → Reader Written
content_of inside openings.Parens = inside.expression
content_of inside (openings.Extract part) = inside.sum
content_of inside (openings.Aggregate function) = inside.sum

-- a pair of parentheses where one opens, and otherwise an atom
abbrev pub atom_or_content : Inside → List Token → Option (Opening × List Token) → Option (Written × List Token)
atom_or_content inside ts None = atom_at ts
atom_or_content inside ts (Some r) = followed_by (content_of inside r.0) (λ w. behind (after_symbol symbols.Close) (done (enclosed r.0 w))) r.1

-- takes an expression that stands for itself
unfoldable pub primary_of : Inside → Reader Written
primary_of inside ts = atom_or_content inside ts (opening_at ts)

-- what is made of the thing behind a sign or a word, or the thing alone
abbrev pub prefixed : (Written → Written) → Reader Written → List Token → Option (List Token) → Option (Written × List Token)
prefixed make item ts None = item ts
prefixed make item ts (Some us) = item us >>= λ r. Some (make r.0, r.1)

-- takes a factor, with or without a minus in front
unfoldable pub factor_of : Inside → Reader Written
factor_of inside ts = prefixed Negative (primary_of inside) ts (after_symbol symbols.Minus ts)

-- takes a product of factors
unfoldable pub product_of : Inside → Reader Written
product_of inside = joined_at operators.Times (factor_of inside)

-- takes a sum of products, each later one behind its sign
unfoldable pub sum_of : Inside → Reader Written
sum_of inside = followed_by (product_of inside) (more_terms (product_of inside))

-- takes at least one sum, with commas between them
unfoldable pub choices_of : Inside → Reader (List Written)
choices_of inside = followed_by inside.sum (λ first. more_parts separators.Comma inside.sum (first ∷ []))

-- takes the least and the greatest of a test between bounds
unfoldable pub between_of : Inside → Bool → Written → Reader Written
between_of inside negated value =
    followed_by (sum_of inside) (λ least. behind (after_keyword keywords.And) (followed_by (sum_of inside) (λ greatest. done (Between negated value least greatest))))

-- takes the choices of a test, with their parentheses
unfoldable pub enclosed_choices : Inside → Reader (List Written)
enclosed_choices inside = behind (after_symbol symbols.Open) (followed_by (choices_of inside) (λ ws. behind (after_symbol symbols.Close) (done ws)))

-- takes what follows the words of a test of the value
unfoldable pub tested : Inside → Written → Test → Reader Written
tested inside value (tests.Compare comparison) = followed_by (sum_of inside) (λ other. done (Compare comparison value other))
tested inside value (tests.IsNull negated) = done (IsNull negated value)
tested inside value (tests.Between negated) = between_of inside negated value
tested inside value (tests.In negated) = followed_by (enclosed_choices inside) (λ ws. done (In negated value (choices ws)))
tested inside value (tests.Like negated) = followed_by text_at (λ pattern. done (Like negated value pattern))

-- the value with its test where one follows, and otherwise the value alone
abbrev pub value_or_test : Inside → Written → List Token → Option (Test × List Token) → Option (Written × List Token)
value_or_test inside value ts None = Some (value, ts)
value_or_test inside value ts (Some r) = tested inside value r.0 r.1

-- takes a value, with or without a test of it
unfoldable pub predicate_of : Inside → Reader Written
predicate_of inside = followed_by (sum_of inside) (λ value ts. value_or_test inside value ts (test_at ts))

-- takes a predicate, with or without NOT in front
unfoldable pub negation_of : Inside → Reader Written
negation_of inside ts = prefixed Not (predicate_of inside) ts (after_keyword keywords.Not ts)

-- the reader of the parts between which this operator stands
unfoldable pub operand_of : Inside → Operator → Reader Written
operand_of inside operators.Times = factor_of inside
operand_of inside operators.And = negation_of inside
operand_of inside operators.Or = joined_at operators.And (negation_of inside)

-- takes a whole expression
unfoldable pub expression_of : Inside → Reader Written
expression_of inside = joined_at operators.Or (operand_of inside operators.Or)

-- the reader of the parts between which this separator stands
abbrev pub part_of : Inside → Separator → Reader Written
part_of inside (separators.Operator operator) = operand_of inside operator
part_of inside separators.Comma = sum_of inside

-- takes nothing
abbrev pub nothing : Reader Written
nothing ts = None

-- the readers of what stands in parentheses, where at most this many pairs may open
unfoldable pub readers : ℕ → Inside
readers zero = record { expression = nothing; sum = nothing }
readers (suc depth) = record { expression = expression_of (readers depth); sum = sum_of (readers depth) }

-- the reader of the parts between which this separator stands, where at most this many pairs may open
abbrev pub parts_in : ℕ → Separator → Reader Written
parts_in depth separator = part_of (readers depth) separator

-- takes the later parts of a chain, where at most this many pairs may open
abbrev pub later_parts : ℕ → Separator → List Written → Reader (List Written)
later_parts depth separator = more_parts separator (parts_in depth separator)

-- takes an expression from the front, as much as makes one
unfoldable pub expression_at : Reader Written
expression_at ts = expression_of (readers (length ts)) ts

-- the expression that was read, where nothing is left behind it
abbrev pub if_no_more : Written × List Token → Option Written
if_no_more (w, []) = Some w
if_no_more (w, t ∷ ts) = None

-- the expression that all of the tokens are, if they are one
unfoldable pub whole_expression : List Token → Option Written
whole_expression ts = expression_at ts >>= if_no_more
