use denote.Shadow.{shadow}
use denote.Text.{Utf8}
use Rattle.cq_prims_like.proofs.pattern.longest_run.Given as goal

-- the longest run so far is text
abbrev pub invariant-loop-run : goal.invariant-loop-run
invariant-loop-run l = shadow (Utf8 l.longest)
