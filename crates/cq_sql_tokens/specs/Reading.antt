-- What the reader of tokens gives.
use Rattle.std.specs.Prelude.{ℕ, List, Result, Ok, Err}
use Rattle.cq_sql_language.specs.declared.token.Token.{Token}
use Rattle.cq_sql_language.specs.Tokens.{HasTokens}
use Rattle.cq_sql_tokens.specs.declared.fault.TokenFault.{TokenFault}
use Rattle.cq_sql_tokens.specs.declared.fault.TokenFault.TheVariants.{Memory, Syntax}

-- the tokens that the text has; a fault of syntax only where it has none
abbrev pub Reads : List ℕ → Result (List Token) TokenFault → Type 0
Reads text (Ok ts) = HasTokens text ts
Reads text (Err Memory) = Unit {0}
Reads text (Err Syntax) = (ts : List Token) → HasTokens text ts → ⊥
