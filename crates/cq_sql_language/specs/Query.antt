-- How a query is spelled, clause by clause (docs/LANGUAGE.md, Queries).
use Rattle.std.specs.Prelude.{◌≡◌, ◌⊎◌, ℕ, Bool, true, false, List, [], ◌∷◌, ◌++◌, Option, Some, None}
use Rattle.cq_sql_language.specs.declared.token.Keyword.TheVariants as keywords
use Rattle.cq_sql_language.specs.declared.token.Symbol.TheVariants as symbols
use Rattle.cq_sql_language.specs.declared.token.Token.{Token}
use Rattle.cq_sql_language.specs.declared.token.Token.TheVariants as tokens
use Rattle.cq_sql_language.specs.declared.statement.FromSource.{FromSource}
use Rattle.cq_sql_language.specs.declared.statement.JoinedSource.{JoinedSource}
use Rattle.cq_sql_language.specs.declared.statement.OnEquality.{OnEquality}
use Rattle.cq_sql_language.specs.declared.statement.OrderKey.{OrderKey}
use Rattle.cq_sql_language.specs.declared.statement.OutputColumn.{OutputColumn}
use Rattle.cq_sql_language.specs.declared.statement.OutputColumn.TheVariants as outputs
use Rattle.cq_sql_language.specs.declared.statement.Select.{Select}
use Rattle.cq_sql_language.specs.declared.statement.SelectItem.{SelectItem}
use Rattle.cq_sql_language.specs.declared.written.ColumnName.{ColumnName}
use Rattle.cq_sql_language.specs.Expression.{IsExpression}
use Rattle.cq_sql_language.specs.Parts.{◌before◌, IsWord, IsSign, IsName, IsNumber, IsLeftOut, IsCondition, IsListBy, IsWhere, Each, Separated, SeparatedBy}
use Rattle.cq_sql_language.specs.Spelling.{column_tokens}

-- [DISTINCT]
abbrev pub IsDistinct : Bool → List Token → Type 0
IsDistinct true ts = IsWord keywords.Distinct ts
IsDistinct false ts = IsLeftOut ts

-- [AS name]
abbrev pub IsAlias : Option (List ℕ) → List Token → Type 0
IsAlias None ts = IsLeftOut ts
IsAlias (Some name) ts = (IsWord keywords.As before IsName name) ts

-- expr [AS name]
abbrev pub IsSelectItem : SelectItem → List Token → Type 0
IsSelectItem item = IsExpression item.value before IsAlias item.alias

-- ---- FROM
-- [[AS] name]
abbrev pub IsKnownAs : Option (List ℕ) → List Token → Type 0
IsKnownAs None ts = IsLeftOut ts
IsKnownAs (Some name) ts = IsName name ts ⊎ IsAlias (Some name) ts

-- name [[AS] name]
abbrev pub IsSource : FromSource → List Token → Type 0
IsSource f = IsName f.name before IsKnownAs f.alias

-- name [. name]
abbrev pub IsColumnName : ColumnName → List Token → Type 0
IsColumnName c ts = ts ≡ column_tokens c.source c.name

-- col = col
abbrev pub IsEquality : OnEquality → List Token → Type 0
IsEquality e = IsColumnName e.left before IsSign symbols.Equal before IsColumnName e.right

-- [INNER] JOIN
abbrev pub AreJoinWords : List Token → Type 0
AreJoinWords ts = IsWord keywords.Join ts ⊎ (IsWord keywords.Inner before IsWord keywords.Join) ts

-- [INNER] JOIN source ON eq {AND eq}
abbrev pub IsJoin : JoinedSource → List Token → Type 0
IsJoin j = AreJoinWords before IsSource j.source before IsWord keywords.On before SeparatedBy (tokens.Keyword keywords.And) IsEquality j.on

-- ---- ORDER BY and LIMIT
-- name or int
abbrev pub output_token : OutputColumn → Token
output_token (outputs.Named name) = tokens.Name name
output_token (outputs.At n) = tokens.Number n

-- [ASC] or DESC
abbrev pub IsDirection : Bool → List Token → Type 0
IsDirection true ts = IsWord keywords.Desc ts
IsDirection false ts = IsLeftOut ts ⊎ IsWord keywords.Asc ts

-- (name | int) [ASC | DESC]
abbrev pub IsOrderKey : OrderKey → List Token → Type 0
IsOrderKey k ts = (direction : List Token) × (ts ≡ output_token k.column ∷ direction) × IsDirection k.is_descending direction

-- [LIMIT int]
abbrev pub IsLimit : Option ℕ → List Token → Type 0
IsLimit None ts = IsLeftOut ts
IsLimit (Some n) ts = (IsWord keywords.Limit before IsNumber n) ts

-- ---- The query
-- what stands behind FROM and its joins
abbrev pub AreLaterClauses : Select → List Token → Type 0
AreLaterClauses q =
    IsWhere q.condition before IsListBy keywords.Group IsColumnName q.group before IsCondition keywords.Having q.having
    before IsListBy keywords.Order IsOrderKey q.order before IsLimit q.limit

-- SELECT [DISTINCT] item {, item} FROM source {join}, and the later clauses
abbrev pub IsSelect : Select → List Token → Type 0
IsSelect q =
    IsWord keywords.Select before IsDistinct q.is_distinct before Separated IsSelectItem q.items
    before IsWord keywords.From before IsSource q.first before Each IsJoin q.joins before AreLaterClauses q
