use Rattle.std.proofs.Common.{[], take}
use Rattle.cq_test_plain.specs.Lent.{HoldRows}
use Rattle.cq_test_plain.proofs.lent.lent_tables.Given as goal

-- the entries are the tables so far
abbrev pub invariant-loop-number : goal.invariant-loop-number
invariant-loop-number l = HoldRows (take l.number l.tables) [] l.sources.items
