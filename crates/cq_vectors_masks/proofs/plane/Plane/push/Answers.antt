use Rattle.std.proofs.Common.{arith, ap, length}
use Rattle.cq_vectors_masks.proofs.PlaneLemmas.{length-flags}
use Rattle.cq_vectors_masks.proofs.PushLemmas.{pushed}
use Rattle.cq_vectors_masks.proofs.plane.Plane.push.Goals as goal

pub push_bit-requires : goal.push_bit-requires
push_bit-requires c =
    let p = c.self.inside in
    omega (arith, c.requires, ap length c.self.view_is, length-flags p.words p.len)

pub invariant_of-self : goal.invariant_of-self
invariant_of-self c =
    let p = c.self.inside in
    (pushed p.words _ p.len c.args.self.now c.args.flag c.push_bit.ensures c.requires c.self.view_is c.self.invariant).0

pub returns : goal.returns
returns c =
    let p = c.self.inside in
    (pushed p.words _ p.len c.args.self.now c.args.flag c.push_bit.ensures c.requires c.self.view_is c.self.invariant).1
