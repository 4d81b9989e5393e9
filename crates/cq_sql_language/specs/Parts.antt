-- What statements are put together from: words, names, lists, columns, constants and conditions (docs/LANGUAGE.md, Statements).
use Rattle.std.specs.Prelude.{◌≡◌, ℕ, Bool, true, false, List, [], ◌∷◌, ◌++◌, Option, Some, None}
use Rattle.cq_values.specs.declared.column.ColumnDef.{ColumnDef}
use Rattle.cq_values.specs.declared.ty.Ty.{Ty}
use Rattle.cq_values.specs.declared.ty.Ty.TheVariants as types
use Rattle.cq_sql_language.specs.declared.token.Keyword.{Keyword}
use Rattle.cq_sql_language.specs.declared.token.Keyword.TheVariants as keywords
use Rattle.cq_sql_language.specs.declared.token.Symbol.{Symbol}
use Rattle.cq_sql_language.specs.declared.token.Symbol.TheVariants as symbols
use Rattle.cq_sql_language.specs.declared.token.Token.{Token}
use Rattle.cq_sql_language.specs.declared.token.Token.TheVariants as tokens
use Rattle.cq_sql_language.specs.declared.statement.Constant.{Constant}
use Rattle.cq_sql_language.specs.declared.statement.Constant.TheVariants as constants
use Rattle.cq_sql_language.specs.declared.statement.Literal.{Literal}
use Rattle.cq_sql_language.specs.Expression.{IsExpression}
use Rattle.cq_sql_language.specs.Written.{Written}

infixr 10 ◌before◌
-- the one, and then the other
abbrev pub ◌before◌ : (List Token → Type 0) → (List Token → Type 0) → List Token → Type 0
(Is before More) ts = (front rest : List Token) × (ts ≡ front ++ rest) × Is front × More rest

-- a keyword
abbrev pub IsWord : Keyword → List Token → Type 0
IsWord word ts = ts ≡ tokens.Keyword word ∷ []

-- a symbol
abbrev pub IsSign : Symbol → List Token → Type 0
IsSign sign ts = ts ≡ tokens.Symbol sign ∷ []

-- name
abbrev pub IsName : List ℕ → List Token → Type 0
IsName n ts = ts ≡ tokens.Name n ∷ []

-- int
abbrev pub IsNumber : ℕ → List Token → Type 0
IsNumber n ts = ts ≡ tokens.Number n ∷ []

-- text
abbrev pub IsText : List ℕ → List Token → Type 0
IsText t ts = ts ≡ tokens.Text t ∷ []

-- nothing
abbrev pub IsLeftOut : List Token → Type 0
IsLeftOut ts = ts ≡ []

-- {x}
abbrev pub Each : {A : Type 0} → (A → List Token → Type 0) → List A → List Token → Type 0
Each Is [] ts = IsLeftOut ts
Each Is (x ∷ xs) ts = (Is x before Each Is xs) ts

-- x {link x}
abbrev pub SeparatedBy : {A : Type 0} → Token → (A → List Token → Type 0) → List A → List Token → Type 0
SeparatedBy link Is [] ts = ⊥
SeparatedBy link Is (x ∷ []) ts = Is x ts
SeparatedBy link Is (x ∷ y ∷ ys) ts = (front rest : List Token) × (ts ≡ front ++ link ∷ rest) × Is x front × SeparatedBy link Is (y ∷ ys) rest

-- x {, x}
abbrev pub Separated : {A : Type 0} → (A → List Token → Type 0) → List A → List Token → Type 0
Separated Is xs ts = SeparatedBy (tokens.Symbol symbols.Comma) Is xs ts

-- [word BY x {, x}]
abbrev pub IsListBy : {A : Type 0} → Keyword → (A → List Token → Type 0) → List A → List Token → Type 0
IsListBy word Is [] ts = IsLeftOut ts
IsListBy word Is (x ∷ xs) ts = (IsWord word before IsWord keywords.By before Separated Is (x ∷ xs)) ts

-- ---- Columns
-- INTEGER, TEXT or DATE
abbrev pub type_word : Ty → Keyword
type_word types.Integer = keywords.Integer
type_word types.Text = keywords.Text
type_word types.Date = keywords.Date

-- [NOT NULL]
abbrev pub not_null_tokens : Bool → List Token
not_null_tokens true = tokens.Keyword keywords.Not ∷ tokens.Keyword keywords.Null ∷ []
not_null_tokens false = []

-- name type [NOT NULL]
abbrev pub IsColumn : ColumnDef → List Token → Type 0
IsColumn d ts = ts ≡ tokens.Name d.name ∷ tokens.Keyword (type_word d.ty) ∷ not_null_tokens d.not_null

-- ---- Constants
-- [-]
abbrev pub sign_tokens : Bool → List Token
sign_tokens true = tokens.Symbol symbols.Minus ∷ []
sign_tokens false = []

-- [-] int
abbrev pub IsLiteral : Literal → List Token → Type 0
IsLiteral l ts = ts ≡ sign_tokens l.is_negative ++ tokens.Number l.magnitude ∷ []

-- NULL, [-] int, text or DATE text
abbrev pub IsConstant : Constant → List Token → Type 0
IsConstant constants.Null ts = IsWord keywords.Null ts
IsConstant (constants.Number l) ts = IsLiteral l ts
IsConstant (constants.Text t) ts = ts ≡ tokens.Text t ∷ []
IsConstant (constants.Date t) ts = ts ≡ tokens.Keyword keywords.Date ∷ tokens.Text t ∷ []

-- ( const {, const} )
abbrev pub IsRow : List Constant → List Token → Type 0
IsRow row = IsSign symbols.Open before Separated IsConstant row before IsSign symbols.Close

-- ---- Conditions
-- [word expr]
abbrev pub IsCondition : Keyword → Option Written → List Token → Type 0
IsCondition word None ts = IsLeftOut ts
IsCondition word (Some condition) ts = (IsWord word before IsExpression condition) ts

-- [WHERE expr]
abbrev pub IsWhere : Option Written → List Token → Type 0
IsWhere condition = IsCondition keywords.Where condition
