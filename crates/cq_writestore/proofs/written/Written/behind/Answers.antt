use Rattle.std.proofs.Common.{arith}
use Rattle.cq_writestore.proofs.SpotLists.{few-behind, whole-behind}
use Rattle.cq_writestore.proofs.written.Written.behind.Goals as goal

pub invariant_of-result : goal.invariant_of-result
invariant_of-result c =
    let w = c.args.self.now in
    let k = c.args.pieces in
    rw c.split_at.ensures.back record {
      whole = whole-behind w.pieces.now k w.whole;
      few = omega (arith, few-behind w.pieces.now k, w.few);
    }
