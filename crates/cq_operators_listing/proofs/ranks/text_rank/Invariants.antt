use Rattle.cq_operators_listing.proofs.Digits.{HasRead}
use Rattle.cq_operators_listing.proofs.ranks.text_rank.Given as goal

-- the digits so far, with those that are left
abbrev pub invariant-loop-place : goal.invariant-loop-place
invariant-loop-place l = HasRead l.bytes l.place l.rank
