-- The trees of statements and the token lists that they have (docs/LANGUAGE.md, Statements).
use Rattle.std.specs.Prelude.{◌≡◌, ℕ, true, false, List}
use Rattle.cq_sql_language.specs.declared.token.Keyword.TheVariants as keywords
use Rattle.cq_sql_language.specs.declared.token.Symbol.TheVariants as symbols
use Rattle.cq_sql_language.specs.declared.token.Token.{Token}
use Rattle.cq_sql_language.specs.declared.statement.SetClause.{SetClause}
use Rattle.cq_sql_language.specs.declared.statement.Statement.{Statement}
use Rattle.cq_sql_language.specs.declared.statement.Statement.TheVariants as statements
use Rattle.cq_sql_language.specs.Expression.{IsExpression}
use Rattle.cq_sql_language.specs.Parts.{◌before◌, IsWord, IsSign, IsName, IsNumber, IsText, IsColumn, IsListBy, IsRow, IsWhere, Separated}
use Rattle.cq_sql_language.specs.Query.{IsSelect}
use Rattle.cq_sql_language.specs.Tokens.{HasTokens, is_past_limits}

-- name = expr
abbrev pub IsSetClause : SetClause → List Token → Type 0
IsSetClause c = IsName c.column before IsSign symbols.Equal before IsExpression c.value

-- a statement of each kind, from its first word to its last
abbrev pub IsStatement : Statement → List Token → Type 0
-- CREATE TABLE name ( column {, column} ) [SORT BY name {, name}]
IsStatement (statements.CreateTable name columns sort) =
    IsWord keywords.Create before IsWord keywords.Table before IsName name
    before IsSign symbols.Open before Separated IsColumn columns before IsSign symbols.Close before IsListBy keywords.Sort IsName sort
-- DROP TABLE name
IsStatement (statements.DropTable name) = IsWord keywords.Drop before IsWord keywords.Table before IsName name
-- CREATE VIEW name AS select
IsStatement (statements.CreateView name query) =
    IsWord keywords.Create before IsWord keywords.View before IsName name before IsWord keywords.As before IsSelect query
-- DROP VIEW name
IsStatement (statements.DropView name) = IsWord keywords.Drop before IsWord keywords.View before IsName name
-- INSERT INTO name VALUES row {, row}
IsStatement (statements.Insert name rows) =
    IsWord keywords.Insert before IsWord keywords.Into before IsName name before IsWord keywords.Values before Separated IsRow rows
-- DELETE FROM name [WHERE ..]
IsStatement (statements.Delete name condition) = IsWord keywords.Delete before IsWord keywords.From before IsName name before IsWhere condition
-- UPDATE name SET name = expr {, name = expr} [WHERE ..]
IsStatement (statements.Update name assignments condition) =
    IsWord keywords.Update before IsName name before IsWord keywords.Set before Separated IsSetClause assignments before IsWhere condition
-- COPY name FROM text
IsStatement (statements.Copy name file) = IsWord keywords.Copy before IsName name before IsWord keywords.From before IsText file
-- SELECT ..
IsStatement (statements.Select query) = IsSelect query
-- MOVE name int
IsStatement (statements.Move name rows) = IsWord keywords.Move before IsName name before IsNumber rows
-- MERGE name
IsStatement (statements.Merge name) = IsWord keywords.Merge before IsName name
-- REFRESH name int
IsStatement (statements.Refresh name changes) = IsWord keywords.Refresh before IsName name before IsNumber changes

-- the text is a statement: it has tokens within the limits, and they have this tree
pub record IsSentence (text : List ℕ) (s : Statement) : Type 0 where
  pub tokens : List Token
  pub told : HasTokens text tokens
  pub within : is_past_limits tokens ≡ false
  pub tree : IsStatement s tokens

-- the text has tokens, and they go past a limit
pub record IsPastLimits (text : List ℕ) : Type 0 where
  pub tokens : List Token
  pub told : HasTokens text tokens
  pub past : is_past_limits tokens ≡ true

-- the tokens of the text, if it has any, are within the limits and have no tree
pub record IsNoSentence (text : List ℕ) : Type 0 where
  pub within : (ts : List Token) → HasTokens text ts → is_past_limits ts ≡ false
  pub no_tree : (ts : List Token) → HasTokens text ts → (s : Statement) → IsStatement s ts → ⊥
