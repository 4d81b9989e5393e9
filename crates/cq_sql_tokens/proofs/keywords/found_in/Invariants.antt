use Rattle.std.proofs.Common.{◌≡◌, drop}
use Rattle.cq_sql_tokens.specs.Lexing.{found_in}
use Rattle.cq_sql_tokens.proofs.keywords.found_in.Given as goal

-- what the rest of the table finds is what all of it finds
abbrev pub invariant-loop-keyword : goal.invariant-loop-keyword
invariant-loop-keyword l = found_in (drop l.keyword-index l.table) l.word ≡ found_in l.table l.word
