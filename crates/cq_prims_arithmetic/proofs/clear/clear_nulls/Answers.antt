use Rattle.std.proofs.Common.{arith}
use Rattle.std.proofs.lemmas.Bool.{OnTrue_at}
use Rattle.cq_prims_arithmetic.proofs.ColumnLemmas.{cleared, nothing_cleared}
use Rattle.cq_prims_arithmetic.proofs.clear.clear_nulls.Goals as goal

pub returns-then-is_clear : goal.returns-then-is_clear
returns-then-is_clear c = nothing_cleared c.args.values.now.items c.args.nulls.now c.requires (OnTrue_at c.if-is_clear.true c.is_clear.ensures)

pub returns : goal.returns
returns c = cleared c.loop-i.values.items c.args.values.now.items c.args.nulls.now c.requires c.loop-i.invariant.0 (λ k lt. c.loop-i.invariant.1 k (omega (arith, lt, c.loop-i-test.false, c.len-i-end.ensures.len)))
