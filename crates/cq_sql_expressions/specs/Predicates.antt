-- The words that begin a test of a value, as a reader on lists.
use Rattle.std.specs.Prelude.{Bool, true, false, ◌∷◌, Option, Some, None}
use Rattle.cq_values.specs.declared.comparison.Comparison.{Comparison}
use Rattle.cq_values.specs.declared.comparison.Comparison.TheVariants as comparisons
use Rattle.cq_sql_language.specs.declared.token.Keyword.{Keyword}
use Rattle.cq_sql_language.specs.declared.token.Keyword.TheVariants as keywords
use Rattle.cq_sql_language.specs.declared.token.Symbol.{Symbol}
use Rattle.cq_sql_language.specs.declared.token.Symbol.TheVariants as symbols
use Rattle.cq_sql_language.specs.declared.token.Token.TheVariants as tokens
use Rattle.cq_sql_expressions.specs.declared.predicates.Test.{Test}
use Rattle.cq_sql_expressions.specs.declared.predicates.Test.TheVariants as tests
use Rattle.cq_sql_expressions.specs.Read.{◌>>=◌, Reader}

-- the comparison that the symbol stands for, if it is one
abbrev pub comparison_of : Symbol → Option Comparison
comparison_of symbols.Equal = Some comparisons.Equal
comparison_of symbols.NotEqual = Some comparisons.NotEqual
comparison_of symbols.Less = Some comparisons.Less
comparison_of symbols.LessOrEqual = Some comparisons.LessOrEqual
comparison_of symbols.Greater = Some comparisons.Greater
comparison_of symbols.GreaterOrEqual = Some comparisons.GreaterOrEqual
comparison_of symbol = None

-- the test that the word begins, with or without NOT in front
abbrev pub worded : Bool → Keyword → Option Test
worded negated keywords.Between = Some (tests.Between negated)
worded negated keywords.In = Some (tests.In negated)
worded negated keywords.Like = Some (tests.Like negated)
worded negated word = None

-- takes the first words of a test from the front
abbrev pub test_at : Reader Test
test_at (tokens.Symbol symbol ∷ ts) = comparison_of symbol >>= λ comparison. Some (tests.Compare comparison, ts)
test_at (tokens.Keyword keywords.Is ∷ tokens.Keyword keywords.Null ∷ ts) = Some (tests.IsNull false, ts)
test_at (tokens.Keyword keywords.Is ∷ tokens.Keyword keywords.Not ∷ tokens.Keyword keywords.Null ∷ ts) = Some (tests.IsNull true, ts)
test_at (tokens.Keyword keywords.Not ∷ tokens.Keyword word ∷ ts) = worded true word >>= λ test. Some (test, ts)
test_at (tokens.Keyword word ∷ ts) = worded false word >>= λ test. Some (test, ts)
test_at ts = None
