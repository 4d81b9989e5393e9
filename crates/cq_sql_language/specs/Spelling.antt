-- How expressions are spelled as tokens (docs/LANGUAGE.md, Expressions).
use Rattle.std.specs.Prelude.{ℕ, Bool, true, false, List, [], ◌∷◌, ◌++◌, Option, Some, None}
use Rattle.cq_values.specs.declared.day_part.DayPart.{DayPart}
use Rattle.cq_values.specs.declared.day_part.DayPart.TheVariants as parts
use Rattle.cq_values.specs.declared.comparison.Comparison.{Comparison}
use Rattle.cq_values.specs.declared.comparison.Comparison.TheVariants as comparisons
use Rattle.cq_sql_language.specs.declared.token.Keyword.{Keyword}
use Rattle.cq_sql_language.specs.declared.token.Keyword.TheVariants as keywords
use Rattle.cq_sql_language.specs.declared.token.Symbol.{Symbol}
use Rattle.cq_sql_language.specs.declared.token.Symbol.TheVariants as symbols
use Rattle.cq_sql_language.specs.declared.token.Token.{Token}
use Rattle.cq_sql_language.specs.declared.token.Token.TheVariants as tokens
use Rattle.cq_sql_language.specs.declared.written.AggregateFunction.{AggregateFunction}
use Rattle.cq_sql_language.specs.declared.written.AggregateFunction.TheVariants as functions
use Rattle.cq_sql_language.specs.declared.written.ColumnName.{ColumnName}
use Rattle.cq_sql_language.specs.Written.{Written, Choices, Number, Text, Date, Null, Column, Extract, CountAll, Aggregate, Parens, Negative, Times, Plus, Minus, Compare, IsNull, Between, In, Like, Not, And, Or, NoChoice, Choice}

-- name [. name]
abbrev pub column_tokens : Option (List ℕ) → List ℕ → List Token
column_tokens None name = tokens.Name name ∷ []
column_tokens (Some source) name = tokens.Name source ∷ tokens.Symbol symbols.Dot ∷ tokens.Name name ∷ []

-- YEAR, MONTH or DAY
abbrev pub part_word : DayPart → Keyword
part_word parts.Year = keywords.Year
part_word parts.Month = keywords.Month
part_word parts.Day = keywords.Day

-- COUNT, SUM, MIN or MAX
abbrev pub function_word : AggregateFunction → Keyword
function_word functions.Count = keywords.Count
function_word functions.CountDistinct = keywords.Count
function_word functions.Sum = keywords.Sum
function_word functions.Min = keywords.Min
function_word functions.Max = keywords.Max

-- [DISTINCT] before the argument
abbrev pub quantifier_tokens : AggregateFunction → List Token
quantifier_tokens functions.CountDistinct = tokens.Keyword keywords.Distinct ∷ []
quantifier_tokens function = []

-- the sign of a comparison
abbrev pub comparison_sign : Comparison → Symbol
comparison_sign comparisons.Equal = symbols.Equal
comparison_sign comparisons.NotEqual = symbols.NotEqual
comparison_sign comparisons.Less = symbols.Less
comparison_sign comparisons.LessOrEqual = symbols.LessOrEqual
comparison_sign comparisons.Greater = symbols.Greater
comparison_sign comparisons.GreaterOrEqual = symbols.GreaterOrEqual

-- [NOT]
abbrev pub not_tokens : Bool → List Token
not_tokens true = tokens.Keyword keywords.Not ∷ []
not_tokens false = []

abbrev mutual
  -- the tokens of an expression
  pub spelled : Written → List Token
  spelled (Number n) = tokens.Number n ∷ []
  spelled (Text t) = tokens.Text t ∷ []
  spelled (Date t) = tokens.Keyword keywords.Date ∷ tokens.Text t ∷ []
  spelled Null = tokens.Keyword keywords.Null ∷ []
  spelled (Column c) = column_tokens c.source c.name
  spelled (Extract part a) =
      tokens.Keyword keywords.Extract ∷ tokens.Symbol symbols.Open ∷ tokens.Keyword (part_word part) ∷ tokens.Keyword keywords.From ∷ spelled a ++ tokens.Symbol symbols.Close ∷ []
  spelled CountAll =
      tokens.Keyword keywords.Count ∷ tokens.Symbol symbols.Open ∷ tokens.Symbol symbols.Star ∷ tokens.Symbol symbols.Close ∷ []
  spelled (Aggregate function a) =
      tokens.Keyword (function_word function) ∷ tokens.Symbol symbols.Open ∷ quantifier_tokens function ++ spelled a ++ tokens.Symbol symbols.Close ∷ []
  spelled (Parens a) = tokens.Symbol symbols.Open ∷ spelled a ++ tokens.Symbol symbols.Close ∷ []
  spelled (Negative a) = tokens.Symbol symbols.Minus ∷ spelled a
  spelled (Times a b) = spelled a ++ tokens.Symbol symbols.Star ∷ spelled b
  spelled (Plus a b) = spelled a ++ tokens.Symbol symbols.Plus ∷ spelled b
  spelled (Minus a b) = spelled a ++ tokens.Symbol symbols.Minus ∷ spelled b
  spelled (Compare c a b) = spelled a ++ tokens.Symbol (comparison_sign c) ∷ spelled b
  spelled (IsNull negated a) = spelled a ++ tokens.Keyword keywords.Is ∷ not_tokens negated ++ tokens.Keyword keywords.Null ∷ []
  spelled (Between negated a least greatest) =
      spelled a ++ not_tokens negated ++ tokens.Keyword keywords.Between ∷ spelled least ++ tokens.Keyword keywords.And ∷ spelled greatest
  spelled (In negated a bs) =
      spelled a ++ not_tokens negated ++ tokens.Keyword keywords.In ∷ tokens.Symbol symbols.Open ∷ spelled_choices bs ++ tokens.Symbol symbols.Close ∷ []
  spelled (Like negated a pattern) = spelled a ++ not_tokens negated ++ tokens.Keyword keywords.Like ∷ tokens.Text pattern ∷ []
  spelled (Not a) = tokens.Keyword keywords.Not ∷ spelled a
  spelled (And a b) = spelled a ++ tokens.Keyword keywords.And ∷ spelled b
  spelled (Or a b) = spelled a ++ tokens.Keyword keywords.Or ∷ spelled b

  -- the tokens of a list, with commas between its entries
  pub spelled_choices : Choices → List Token
  spelled_choices NoChoice = []
  spelled_choices (Choice a bs) = spelled a ++ spelled_more bs

  -- the tokens of the entries behind another one
  pub spelled_more : Choices → List Token
  spelled_more NoChoice = []
  spelled_more (Choice a bs) = tokens.Symbol symbols.Comma ∷ spelled a ++ spelled_more bs
