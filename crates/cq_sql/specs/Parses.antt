-- What a piece is read as.
use Rattle.std.specs.Prelude.{ℕ, List, Result, Ok, Err}
use Rattle.cq_sql_language.specs.declared.statement.Statement.{Statement}
use Rattle.cq_sql_language.specs.Sentence.{IsSentence, IsNoSentence, IsPastLimits}
use Rattle.cq_sql_expressions.specs.declared.fault.SqlFault.{SqlFault}
use Rattle.cq_sql_expressions.specs.declared.fault.SqlFault.TheVariants.{Memory, Syntax, LimitExceeded}

-- a sentence within the limits is read to its tree, unless memory ran out; any other text is refused
abbrev pub Parses : List ℕ → Result Statement SqlFault → Type 0
Parses text (Ok s) = IsSentence text s
Parses text (Err Memory) = Unit {0}
Parses text (Err Syntax) = IsNoSentence text
Parses text (Err LimitExceeded) = IsPastLimits text
