-- How names, numbers, texts, columns and constants are read, as functions on lists: what a sentence is, the model says.
use Rattle.std.specs.Prelude.{ℕ, Bool, true, false, List, ◌∷◌, Option, Some, None}
use Rattle.cq_values.specs.declared.column.ColumnDef.{ColumnDef}
use Rattle.cq_values.specs.declared.ty.Ty.{Ty}
use Rattle.cq_values.specs.declared.ty.Ty.TheVariants as types
use Rattle.cq_sql_language.specs.declared.statement.Constant.{Constant}
use Rattle.cq_sql_language.specs.declared.statement.Constant.TheVariants as constants
use Rattle.cq_sql_language.specs.declared.statement.Literal.{Literal}
use Rattle.cq_sql_language.specs.declared.token.Keyword.{Keyword}
use Rattle.cq_sql_language.specs.declared.token.Keyword.TheVariants as keywords
use Rattle.cq_sql_language.specs.declared.token.Symbol.TheVariants as symbols
use Rattle.cq_sql_language.specs.declared.token.Token.TheVariants as tokens
use Rattle.cq_sql_language.specs.declared.written.ColumnName.{ColumnName}
use Rattle.cq_sql_language.specs.Written.{Written}
use Rattle.cq_sql_expressions.specs.Expressions.{expression_at}
use Rattle.cq_sql_expressions.specs.declared.leads.Lead.TheVariants as leads
use Rattle.cq_sql_expressions.specs.Lists.{list_at, tail_at, tail_or}
use Rattle.cq_sql_expressions.specs.Read.{◌>>=◌, Reader, done, followed_by, behind, after_keyword, after_symbol}

-- takes a name from the front, as it is spelled in lower case
abbrev pub name_at : Reader (List ℕ)
name_at (tokens.Name name ∷ ts) = Some (name, ts)
name_at ts = None

-- takes a number without a sign from the front
abbrev pub number_at : Reader ℕ
number_at (tokens.Number n ∷ ts) = Some (n, ts)
number_at ts = None

-- takes a text from the front
abbrev pub text_at : Reader (List ℕ)
text_at (tokens.Text text ∷ ts) = Some (text, ts)
text_at ts = None

-- takes the name of a column, with that of its source where a dot follows it
abbrev pub column_name_at : Reader ColumnName
column_name_at (tokens.Name source ∷ tokens.Symbol symbols.Dot ∷ tokens.Name name ∷ ts) = Some (record { source = Some source; name = name }, ts)
column_name_at (tokens.Name name ∷ ts) = Some (record { source = None; name = name }, ts)
column_name_at ts = None

-- the type that the word names, if it names one
abbrev pub type_of : Keyword → Option Ty
type_of keywords.Integer = Some types.Integer
type_of keywords.Text = Some types.Text
type_of keywords.Date = Some types.Date
type_of word = None

-- takes one of the three words of a type from the front
abbrev pub type_at : Reader Ty
type_at (tokens.Keyword word ∷ ts) = type_of word >>= λ ty. Some (ty, ts)
type_at ts = None

-- takes NOT NULL, or nothing where no NOT stands: whether it was there
abbrev pub not_null_at : Reader Bool
not_null_at = tail_or keywords.Not false (behind (after_keyword keywords.Null) (done true))

-- takes a column: its name, its type, and whether NULL is kept out
unfoldable pub column_at : Reader ColumnDef
column_at =
    followed_by name_at (λ name. followed_by type_at (λ ty. followed_by not_null_at (λ not_null. done (record { name = name; ty = ty; not_null = not_null }))))

-- takes a whole number, with or without a minus in front
abbrev pub literal_at : Reader Literal
literal_at (tokens.Number n ∷ ts) = Some (record { is_negative = false; magnitude = n }, ts)
literal_at (tokens.Symbol symbols.Minus ∷ tokens.Number n ∷ ts) = Some (record { is_negative = true; magnitude = n }, ts)
literal_at ts = None

-- takes a whole number as a constant
unfoldable pub number_constant_at : Reader Constant
number_constant_at = followed_by literal_at (λ literal. done (constants.Number literal))

-- takes a constant: NULL, a text, DATE and a text, or a whole number
unfoldable pub constant_at : Reader Constant
constant_at (tokens.Keyword keywords.Null ∷ ts) = Some (constants.Null, ts)
constant_at (tokens.Text text ∷ ts) = Some (constants.Text text, ts)
constant_at (tokens.Keyword keywords.Date ∷ tokens.Text text ∷ ts) = Some (constants.Date text, ts)
constant_at ts = number_constant_at ts

-- takes a row: constants with commas, between two parentheses
unfoldable pub row_at : Reader (List Constant)
row_at = behind (after_symbol symbols.Open) (followed_by (list_at leads.Comma constant_at) (λ row. behind (after_symbol symbols.Close) (done row)))

-- takes the expression behind a keyword, or nothing where it is not there
abbrev pub condition_at : Keyword → Reader (Option Written)
condition_at first = tail_at first expression_at
