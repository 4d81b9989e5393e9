use Rattle.std.proofs.Common.{◌≤◌, arith, nat_abs}
use Rattle.std.proofs.lemmas.Int.{ints}
use Rattle.cq_prims_arithmetic.proofs.SideLemmas.{size-above}
use Rattle.cq_prims_arithmetic.proofs.above.size_above.Goals as goal

pub returns : goal.returns
returns g c k =
    let size : nat_abs c.args.base ≤ c.unsigned_abs.result = omega (arith, ints, c.unsigned_abs.ensures.value) in
    omega (arith, size, c.from.ensures, size-above c.args.base c.greatest_of.result (g.T.Offset.numbers c.args.offsets.now) c.greatest_of.ensures.above k)
