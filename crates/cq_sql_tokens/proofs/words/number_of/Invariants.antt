use Rattle.std.proofs.Common.{◌≡◌, ◌-◌, ◌^◌, min, take}
use Rattle.cq_sql_language.specs.Tokens.{decimal}
use Rattle.cq_sql_tokens.proofs.words.number_of.Given as goal

-- the number so far is that of the digits so far
abbrev pub invariant-loop-b : goal.invariant-loop-b
invariant-loop-b l = l.number ≡ min (decimal (take l.b-index l.digits)) (2 ^ 128 - 1)
