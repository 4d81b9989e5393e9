use Rattle.std.proofs.Common.{take}
use Rattle.cq_test_plain.specs.Lent.{HoldRows}
use Rattle.cq_test_plain.proofs.lent.lent_all.Given as goal

-- the entries are the tables and the views so far
abbrev pub invariant-loop-number : goal.invariant-loop-number
invariant-loop-number l = HoldRows l.tables (take l.number l.views) l.sources.items
