-- How queries are read, clause by clause, as functions on lists: what a query is, the model says.
use Rattle.std.specs.Prelude.{ℕ, Bool, true, false, List, [], ◌∷◌, Option, Some, None}
use Rattle.cq_sql_language.specs.declared.statement.FromSource.{FromSource}
use Rattle.cq_sql_language.specs.declared.statement.JoinedSource.{JoinedSource}
use Rattle.cq_sql_language.specs.declared.statement.OnEquality.{OnEquality}
use Rattle.cq_sql_language.specs.declared.statement.OrderKey.{OrderKey}
use Rattle.cq_sql_language.specs.declared.statement.OutputColumn.{OutputColumn}
use Rattle.cq_sql_language.specs.declared.statement.OutputColumn.TheVariants as outputs
use Rattle.cq_sql_language.specs.declared.statement.Select.{Select}
use Rattle.cq_sql_language.specs.declared.statement.SelectItem.{SelectItem}
use Rattle.cq_sql_language.specs.declared.token.Keyword.TheVariants as keywords
use Rattle.cq_sql_language.specs.declared.token.Symbol.TheVariants as symbols
use Rattle.cq_sql_language.specs.declared.token.Token.TheVariants as tokens
use Rattle.cq_sql_expressions.specs.Expressions.{expression_at}
use Rattle.cq_sql_expressions.specs.declared.leads.Lead.TheVariants as leads
use Rattle.cq_sql_expressions.specs.Lists.{more_at, list_at, tail_at, list_behind}
use Rattle.cq_sql_expressions.specs.Read.{Reader, done, followed_by, behind, after_keyword, after_symbol}
use Rattle.cq_sql.specs.declared.later.LaterClauses.{LaterClauses}
use Rattle.cq_sql.specs.Parts.{name_at, number_at, column_name_at, condition_at}

-- ---- Items
-- takes DISTINCT, if it is there: whether it was
abbrev pub distinct_at : Reader Bool
distinct_at (tokens.Keyword keywords.Distinct ∷ ts) = Some (true, ts)
distinct_at ts = Some (false, ts)

-- takes the name behind AS, or nothing where there is none
abbrev pub alias_at : Reader (Option (List ℕ))
alias_at = tail_at keywords.As name_at

-- takes an item of a SELECT: an expression, and an optional name
unfoldable pub select_item_at : Reader SelectItem
select_item_at = followed_by expression_at (λ value. followed_by alias_at (λ alias. done (record { value = value; alias = alias })))

-- ---- Sources
-- takes a name that stands alone or behind AS, or nothing where there is none
unfoldable pub known_as_at : Reader (Option (List ℕ))
known_as_at (tokens.Name name ∷ ts) = Some (Some name, ts)
known_as_at ts = alias_at ts

-- takes what FROM names: a table or a view, and the name that it is known by
unfoldable pub source_at : Reader FromSource
source_at = followed_by name_at (λ name. followed_by known_as_at (λ alias. done (record { name = name; alias = alias })))

-- takes an equality of ON
unfoldable pub equality_at : Reader OnEquality
equality_at = followed_by column_name_at (λ left. behind (after_symbol symbols.Equal) (followed_by column_name_at (λ right. done (record { left = left; right = right }))))

-- takes what follows JOIN: a source, and its equalities behind ON
unfoldable pub joined_source_at : Reader JoinedSource
joined_source_at = followed_by source_at (λ source. behind (after_keyword keywords.On) (followed_by (list_at leads.And equality_at) (λ on. done (record { source = source; on = on }))))

-- takes each source that is joined
unfoldable pub joins_at : Reader (List JoinedSource)
joins_at = more_at leads.Join joined_source_at []

-- ---- ORDER BY and LIMIT
-- takes a column of the result: its name or its place
abbrev pub output_at : Reader OutputColumn
output_at (tokens.Name name ∷ ts) = Some (outputs.Named name, ts)
output_at (tokens.Number n ∷ ts) = Some (outputs.At n, ts)
output_at ts = None

-- takes ASC or DESC, if one of them is there: whether it was DESC
abbrev pub direction_at : Reader Bool
direction_at (tokens.Keyword keywords.Desc ∷ ts) = Some (true, ts)
direction_at (tokens.Keyword keywords.Asc ∷ ts) = Some (false, ts)
direction_at ts = Some (false, ts)

-- takes what a result is sorted by: a column of it, and its direction
unfoldable pub order_key_at : Reader OrderKey
order_key_at = followed_by output_at (λ column. followed_by direction_at (λ is_descending. done (record { column = column; is_descending = is_descending })))

-- takes the number behind LIMIT, or nothing where there is none
abbrev pub limit_at : Reader (Option ℕ)
limit_at = tail_at keywords.Limit number_at

-- ---- The query
-- takes the clauses from WHERE on
unfoldable pub later_at : Reader LaterClauses
later_at =
    followed_by (condition_at keywords.Where) (λ condition. followed_by (list_behind keywords.Group column_name_at) (λ group. followed_by (condition_at keywords.Having) (λ having. followed_by (list_behind keywords.Order order_key_at) (λ order. followed_by limit_at (λ limit. done (record { condition = condition; group = group; having = having; order = order; limit = limit }))))))

-- the query of these clauses
abbrev pub query_of : Bool → List SelectItem → FromSource → List JoinedSource → LaterClauses → Select
query_of is_distinct items first joins later =
    record { is_distinct = is_distinct; items = items; first = first; joins = joins; condition = later.condition; group = later.group; having = later.having; order = later.order; limit = later.limit }

-- takes a query, from SELECT to its last clause
unfoldable pub query_at : Reader Select
query_at =
    behind (after_keyword keywords.Select) (followed_by distinct_at (λ is_distinct. followed_by (list_at leads.Comma select_item_at) (λ items. behind (after_keyword keywords.From) (followed_by source_at (λ first. followed_by joins_at (λ joins. followed_by later_at (λ later. done (query_of is_distinct items first joins later))))))))
