-- How rows are read one behind the other, as functions on lists.
use Rattle.std.specs.Prelude.{ℕ, List, [], ◌∷◌, ◌++◌, length, Option, Some}
use Rattle.std.specs.Option.{option_map}
use Rattle.cq_sql_language.specs.declared.statement.Constant.{Constant}
use Rattle.cq_sql_language.specs.declared.token.Symbol.TheVariants as symbols
use Rattle.cq_sql_language.specs.declared.token.Token.{Token}
use Rattle.cq_sql_language.specs.declared.token.Token.TheVariants as tokens
use Rattle.cq_sql_language.specs.ConstantRows.{onto_last}
use Rattle.cq_sql_expressions.specs.declared.leads.Lead.TheVariants as leads
use Rattle.cq_sql_expressions.specs.Lists.{chain_from, more_at}
use Rattle.cq_sql_expressions.specs.Read.{◌>>=◌, Reader, done, followed_by, behind, after_symbol}
use Rattle.cq_sql.specs.Parts.{constant_at, row_at}

-- one more constant of the last row, where a comma stands in front of it
unfoldable pub constant_led : List (List Constant) → List Token → Option (Option (List (List Constant) × List Token))
constant_led rows ts = option_map (λ us. constant_at us >>= λ r. Some (onto_last r.0 rows, r.1)) (after_symbol symbols.Comma ts)

-- takes more constants, which are put at the end of the last row
unfoldable pub last_row_at : List (List Constant) → Reader (List (List Constant))
last_row_at rows ts = chain_from constant_led (length ts) rows ts

-- takes a row, which is put behind the others constant by constant
unfoldable pub row_behind : List (List Constant) → Reader (List (List Constant))
row_behind rows =
    behind (after_symbol symbols.Open) (followed_by constant_at (λ first. followed_by (last_row_at (rows ++ (first ∷ []) ∷ [])) (λ longer. behind (after_symbol symbols.Close) (done longer))))

-- a comma, a number without a sign, and what is behind them
abbrev pub number_behind_comma : ℕ → List Token → List Token
number_behind_comma n rest = tokens.Symbol symbols.Comma ∷ tokens.Number n ∷ rest

-- takes more rows, behind those that were read before
unfoldable pub more_rows_at : List (List Constant) → Reader (List (List Constant))
more_rows_at = more_at leads.Comma row_at
