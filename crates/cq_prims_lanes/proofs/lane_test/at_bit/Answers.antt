use Rattle.std.proofs.Common.{arith}
use Rattle.std.proofs.lemmas.Nat.{shl_whole}
use Rattle.cq_prims_lanes.proofs.lane_test.at_bit.Goals as goal

pub returns : goal.returns
returns c = let h = shl_whole c.args.word c.args.lanes c.args.at 64 c.requires.few (omega (arith, c.requires.room)) in h
