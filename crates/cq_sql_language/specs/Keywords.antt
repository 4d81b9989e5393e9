-- The keywords and their spelling (docs/LANGUAGE.md, Scripts and tokens).
use Rattle.std.specs.Prelude.{ℕ, List, [], ◌∷◌, Option, codes}
use Rattle.std.specs.List.{find}
use Rattle.cq_values.specs.Texts.{is_text}
use Rattle.cq_sql_language.specs.declared.token.Keyword.{Keyword}
use Rattle.cq_sql_language.specs.declared.token.Keyword.TheVariants as keywords

-- every keyword
abbrev pub all_keywords : List Keyword
all_keywords =
    keywords.And ∷
    keywords.As ∷
    keywords.Asc ∷
    keywords.Between ∷
    keywords.By ∷
    keywords.Copy ∷
    keywords.Count ∷
    keywords.Create ∷
    keywords.Date ∷
    keywords.Day ∷
    keywords.Delete ∷
    keywords.Desc ∷
    keywords.Distinct ∷
    keywords.Drop ∷
    keywords.Extract ∷
    keywords.From ∷
    keywords.Group ∷
    keywords.Having ∷
    keywords.In ∷
    keywords.Inner ∷
    keywords.Insert ∷
    keywords.Integer ∷
    keywords.Into ∷
    keywords.Is ∷
    keywords.Join ∷
    keywords.Left ∷
    keywords.Like ∷
    keywords.Limit ∷
    keywords.Max ∷
    keywords.Merge ∷
    keywords.Min ∷
    keywords.Month ∷
    keywords.Move ∷
    keywords.Not ∷
    keywords.Null ∷
    keywords.On ∷
    keywords.Or ∷
    keywords.Order ∷
    keywords.Outer ∷
    keywords.Refresh ∷
    keywords.Select ∷
    keywords.Set ∷
    keywords.Sort ∷
    keywords.Sum ∷
    keywords.Table ∷
    keywords.Text ∷
    keywords.Update ∷
    keywords.Values ∷
    keywords.View ∷
    keywords.Where ∷
    keywords.Year ∷ []

-- how a keyword is written in lower case
abbrev pub keyword_spelling : Keyword → List ℕ
keyword_spelling keywords.And = codes "and"
keyword_spelling keywords.As = codes "as"
keyword_spelling keywords.Asc = codes "asc"
keyword_spelling keywords.Between = codes "between"
keyword_spelling keywords.By = codes "by"
keyword_spelling keywords.Copy = codes "copy"
keyword_spelling keywords.Count = codes "count"
keyword_spelling keywords.Create = codes "create"
keyword_spelling keywords.Date = codes "date"
keyword_spelling keywords.Day = codes "day"
keyword_spelling keywords.Delete = codes "delete"
keyword_spelling keywords.Desc = codes "desc"
keyword_spelling keywords.Distinct = codes "distinct"
keyword_spelling keywords.Drop = codes "drop"
keyword_spelling keywords.Extract = codes "extract"
keyword_spelling keywords.From = codes "from"
keyword_spelling keywords.Group = codes "group"
keyword_spelling keywords.Having = codes "having"
keyword_spelling keywords.In = codes "in"
keyword_spelling keywords.Inner = codes "inner"
keyword_spelling keywords.Insert = codes "insert"
keyword_spelling keywords.Integer = codes "integer"
keyword_spelling keywords.Into = codes "into"
keyword_spelling keywords.Is = codes "is"
keyword_spelling keywords.Join = codes "join"
keyword_spelling keywords.Left = codes "left"
keyword_spelling keywords.Like = codes "like"
keyword_spelling keywords.Limit = codes "limit"
keyword_spelling keywords.Max = codes "max"
keyword_spelling keywords.Merge = codes "merge"
keyword_spelling keywords.Min = codes "min"
keyword_spelling keywords.Month = codes "month"
keyword_spelling keywords.Move = codes "move"
keyword_spelling keywords.Not = codes "not"
keyword_spelling keywords.Null = codes "null"
keyword_spelling keywords.On = codes "on"
keyword_spelling keywords.Or = codes "or"
keyword_spelling keywords.Order = codes "order"
keyword_spelling keywords.Outer = codes "outer"
keyword_spelling keywords.Refresh = codes "refresh"
keyword_spelling keywords.Select = codes "select"
keyword_spelling keywords.Set = codes "set"
keyword_spelling keywords.Sort = codes "sort"
keyword_spelling keywords.Sum = codes "sum"
keyword_spelling keywords.Table = codes "table"
keyword_spelling keywords.Text = codes "text"
keyword_spelling keywords.Update = codes "update"
keyword_spelling keywords.Values = codes "values"
keyword_spelling keywords.View = codes "view"
keyword_spelling keywords.Where = codes "where"
keyword_spelling keywords.Year = codes "year"

-- the keyword that a word in lower case is, if it is one
unfoldable pub keyword_of : List ℕ → Option Keyword
keyword_of w = find (λ k. is_text (keyword_spelling k) w) all_keywords
