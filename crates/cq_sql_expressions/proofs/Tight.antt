-- Readers that find exactly the expressions of one tightness, and what may follow them.
use Rattle.std.proofs.Common.{◌≡◌, ℕ, ◌≤◌, ◌<◌, true, List, [], ◌∷◌, ◌++◌, length, Some}
use Rattle.std.specs.Prelude.{nat_le}
use Rattle.std.proofs.lemmas.Bool.{leb-true, le-leb, and_from, and_parts}
use Rattle.cq_sql_language.specs.declared.token.Keyword.TheVariants as keywords
use Rattle.cq_sql_language.specs.declared.token.Symbol.TheVariants as symbols
use Rattle.cq_sql_language.specs.declared.token.Token.{Token}
use Rattle.cq_sql_language.specs.declared.token.Token.TheVariants as tokens
use Rattle.cq_sql_language.specs.Written.{Written}
use Rattle.cq_sql_language.specs.Expression.{tightness, fits, is_in_order}
use Rattle.cq_sql_language.specs.Spelling.{spelled}
use Rattle.cq_sql_expressions.specs.Read.{Reader}

-- from which tightness on an expression ends in front of the token
abbrev pub joint : Token → ℕ
joint (tokens.Symbol symbols.Dot) = 8
joint (tokens.Symbol symbols.Star) = 6
joint (tokens.Symbol symbols.Plus) = 5
joint (tokens.Symbol symbols.Minus) = 5
joint (tokens.Symbol symbols.Equal) = 4
joint (tokens.Symbol symbols.NotEqual) = 4
joint (tokens.Symbol symbols.Less) = 4
joint (tokens.Symbol symbols.LessOrEqual) = 4
joint (tokens.Symbol symbols.Greater) = 4
joint (tokens.Symbol symbols.GreaterOrEqual) = 4
joint (tokens.Keyword keywords.Is) = 4
joint (tokens.Keyword keywords.Not) = 4
joint (tokens.Keyword keywords.Between) = 4
joint (tokens.Keyword keywords.In) = 4
joint (tokens.Keyword keywords.Like) = 4
joint (tokens.Keyword keywords.And) = 2
joint (tokens.Keyword keywords.Or) = 1
joint t = 0

-- from which tightness on an expression ends in front of these tokens
abbrev pub joint_in : List Token → ℕ
joint_in [] = 0
joint_in (t ∷ ts) = joint t

-- at least this tight, with each part in order
abbrev pub Fits : ℕ → Written → Type 0
Fits level w = (level ≤ tightness w) × (is_in_order w ≡ true)

-- the test of the model says the same
pub from_fits : (level : ℕ) (w : Written) → fits level w (is_in_order w) ≡ true → Fits level w
from_fits level w h =
    let p = and_parts (nat_le level (tightness w)) (is_in_order w) h in
    (leb-true level (tightness w) p.0, p.1)

-- what is tight enough passes the test of the model
pub to_fits : (level : ℕ) (w : Written) → Fits level w → fits level w (is_in_order w) ≡ true
to_fits level w h = and_from (nat_le level (tightness w)) (is_in_order w) (le-leb level (tightness w) h.0) h.1

-- the reader finds exactly the expressions of this tightness that have fewer tokens than size
pub record ReadsTight (size level : ℕ) (item : Reader Written) : Type 0 where
  pub found : (w : Written) (rest : List Token) → Fits level w → length (spelled w) < size → joint_in rest ≤ level → item (spelled w ++ rest) ≡ Some (w, rest)
  pub only : (w : Written) (ts rest : List Token) → item ts ≡ Some (w, rest) → Fits level w × (ts ≡ spelled w ++ rest)
