-- Expressions that have no parts, and what opens a pair of parentheses, as readers on lists.
use Rattle.std.specs.Prelude.{ℕ, List, ◌∷◌, Option, Some, None}
use Rattle.cq_values.specs.declared.day_part.DayPart.{DayPart}
use Rattle.cq_values.specs.declared.day_part.DayPart.TheVariants as parts
use Rattle.cq_sql_language.specs.declared.token.Keyword.{Keyword}
use Rattle.cq_sql_language.specs.declared.token.Keyword.TheVariants as keywords
use Rattle.cq_sql_language.specs.declared.token.Symbol.TheVariants as symbols
use Rattle.cq_sql_language.specs.declared.token.Token.TheVariants as tokens
use Rattle.cq_sql_language.specs.declared.written.AggregateFunction.{AggregateFunction}
use Rattle.cq_sql_language.specs.declared.written.AggregateFunction.TheVariants as functions
use Rattle.cq_sql_language.specs.Written.{Written, Number, Text, Date, Null, Column, CountAll}
use Rattle.cq_sql_expressions.specs.declared.atoms.Opening.{Opening}
use Rattle.cq_sql_expressions.specs.declared.atoms.Opening.TheVariants as openings
use Rattle.cq_sql_expressions.specs.Read.{◌>>=◌, Reader}

-- takes a text in quotes from the front
abbrev pub text_at : Reader (List ℕ)
text_at (tokens.Text text ∷ ts) = Some (text, ts)
text_at ts = None

-- takes a number, a text, a date, NULL, a column or COUNT(*) from the front
abbrev pub atom_at : Reader Written
atom_at (tokens.Number n ∷ ts) = Some (Number n, ts)
atom_at (tokens.Text text ∷ ts) = Some (Text text, ts)
atom_at (tokens.Keyword keywords.Date ∷ tokens.Text text ∷ ts) = Some (Date text, ts)
atom_at (tokens.Keyword keywords.Null ∷ ts) = Some (Null, ts)
atom_at (tokens.Name source ∷ tokens.Symbol symbols.Dot ∷ tokens.Name name ∷ ts) = Some (Column (record { source = Some source; name = name }), ts)
atom_at (tokens.Name name ∷ ts) = Some (Column (record { source = None; name = name }), ts)
atom_at (tokens.Keyword keywords.Count ∷ tokens.Symbol symbols.Open ∷ tokens.Symbol symbols.Star ∷ tokens.Symbol symbols.Close ∷ ts) = Some (CountAll, ts)
atom_at ts = None

-- the part of a day that the word names, if it names one
abbrev pub day_part_of : Keyword → Option DayPart
day_part_of keywords.Year = Some parts.Year
day_part_of keywords.Month = Some parts.Month
day_part_of keywords.Day = Some parts.Day
day_part_of word = None

-- takes what follows EXTRACT, up to its content
abbrev pub extract_at : Reader Opening
extract_at (tokens.Symbol symbols.Open ∷ tokens.Keyword word ∷ tokens.Keyword keywords.From ∷ ts) = day_part_of word >>= λ part. Some (openings.Extract part, ts)
extract_at ts = None

-- takes what follows the word of an aggregate, up to its content, which is no star
abbrev pub aggregate_at : AggregateFunction → Reader Opening
aggregate_at function (tokens.Symbol symbols.Open ∷ tokens.Symbol symbols.Star ∷ ts) = None
aggregate_at function (tokens.Symbol symbols.Open ∷ ts) = Some (openings.Aggregate function, ts)
aggregate_at function ts = None

-- takes what follows COUNT, up to its content, with DISTINCT or without
abbrev pub count_at : Reader Opening
count_at (tokens.Symbol symbols.Open ∷ tokens.Keyword keywords.Distinct ∷ ts) = Some (openings.Aggregate functions.CountDistinct, ts)
count_at ts = aggregate_at functions.Count ts

-- takes what follows the word in front of a pair of parentheses, up to their content
abbrev pub called_at : Keyword → Reader Opening
called_at keywords.Extract ts = extract_at ts
called_at keywords.Count ts = count_at ts
called_at keywords.Sum ts = aggregate_at functions.Sum ts
called_at keywords.Min ts = aggregate_at functions.Min ts
called_at keywords.Max ts = aggregate_at functions.Max ts
called_at word ts = None

-- takes what opens a pair of parentheses from the front
abbrev pub opening_at : Reader Opening
opening_at (tokens.Symbol symbols.Open ∷ ts) = Some (openings.Parens, ts)
opening_at (tokens.Keyword word ∷ ts) = called_at word ts
opening_at ts = None
