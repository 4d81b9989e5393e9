use Rattle.std.proofs.Common.{length}
use denote.Text.{Utf8}
use denote.Shadow.{shadow}
use Rattle.cq_sql_tokens.proofs.Cuts.{Continues}
use Rattle.cq_sql_tokens.proofs.reading.tokens.Given as goal

-- the tokens so far and those of the rest are the tokens of the text
abbrev pub invariant-loop-rest : goal.invariant-loop-rest
invariant-loop-rest l = shadow (Utf8 l.rest) × Continues l.text l.tokens l.rest

abbrev pub decreases-loop-rest : goal.decreases-loop-rest
decreases-loop-rest l = length l.rest
