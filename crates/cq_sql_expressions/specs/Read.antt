-- How readers go, as functions on lists, and how they are put together: what a sentence is, the model says.
use Rattle.std.specs.Prelude.{List, ◌∷◌, Option, Some, None, if◌then◌else◌}
use denote.Enum.Bare.{sameb}
use Rattle.cq_sql_language.specs.contracts.token.Keyword as keyword
use Rattle.cq_sql_language.specs.contracts.token.Symbol as symbol
use Rattle.cq_sql_language.specs.declared.token.Keyword.{Keyword}
use Rattle.cq_sql_language.specs.declared.token.Symbol.{Symbol}
use Rattle.cq_sql_language.specs.declared.token.Token.{Token}
use Rattle.cq_sql_language.specs.declared.token.Token.TheVariants as tokens

infixl 10 ◌>>=◌
-- goes on with what there is, as `?` does
abbrev pub ◌>>=◌ : {A B : Type 0} → Option A → (A → Option B) → Option B
(Some x) >>= f = f x
None >>= f = None

-- takes one thing from the front, and leaves the tokens behind it
abbrev pub Reader : Type 0 → Type 0
Reader A = List Token → Option (A × List Token)

-- takes no token, and answers the thing that it is given
abbrev pub done : {A : Type 0} → A → Reader A
done x ts = Some (x, ts)

-- takes one thing, and then another that may depend on it
abbrev pub followed_by : {A B : Type 0} → Reader A → (A → Reader B) → Reader B
followed_by item more ts = item ts >>= λ r. more r.0 r.1

-- takes one thing behind a token that has to stand in front
abbrev pub behind : {A : Type 0} → (List Token → Option (List Token)) → Reader A → Reader A
behind after item ts = after ts >>= item

-- the tokens behind this keyword, if it stands in front
abbrev pub after_keyword : Keyword → List Token → Option (List Token)
after_keyword k (tokens.Keyword first ∷ ts) = if sameb keyword.the_type first k then Some ts else None
after_keyword k ts = None

-- the tokens behind this symbol, if it stands in front
abbrev pub after_symbol : Symbol → List Token → Option (List Token)
after_symbol s (tokens.Symbol first ∷ ts) = if sameb symbol.the_type first s then Some ts else None
after_symbol s ts = None
