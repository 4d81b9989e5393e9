use Rattle.std.proofs.Common.{◌*◌}
use Rattle.cq_table.specs.Whole.{BuiltBefore, first_rows}
use Rattle.cq_table.proofs.whole.build_whole.Given as goal

-- the segments of the pieces so far
abbrev pub invariant-loop-k : goal.invariant-loop-k
invariant-loop-k l = BuiltBefore l.layout.sort (first_rows (64 * l.k) l.pieces) l.made.items
