use Rattle.std.proofs.Common.{◌≡◌, ap, arith, of_z, to_z, to_z-of_z, w64}
use Rattle.std.proofs.lemmas.Int.{ints}
use Rattle.cq_vectors_stored.specs.Offsets.{offsets_in}
use Rattle.cq_prims_arithmetic.proofs.SideLemmas.{side-narrow}
use Rattle.cq_prims_arithmetic.proofs.taker.give_narrow.Goals as goal

pub take-requires : goal.take-requires
take-requires g c =
    let kept : to_z w64 (of_z w64 c.parts-base.result.0) ≡ c.parts-base.result.0 = search (arith, ints, to_z-of_z) in
    side-narrow kept (ap offsets_in c.in-One.is) c.requires c.parts-base.ensures.whole c.nulls-nulls.ensures c.parts-base.ensures.long

pub take-requires-in-Two : goal.take-requires-in-Two
take-requires-in-Two g c =
    let kept : to_z w64 (of_z w64 c.parts-base.result.0) ≡ c.parts-base.result.0 = search (arith, ints, to_z-of_z) in
    side-narrow kept (ap offsets_in c.in-Two.is) c.requires c.parts-base.ensures.whole c.nulls-nulls.ensures c.parts-base.ensures.long

pub take-requires-in-Four : goal.take-requires-in-Four
take-requires-in-Four g c =
    let kept : to_z w64 (of_z w64 c.parts-base.result.0) ≡ c.parts-base.result.0 = search (arith, ints, to_z-of_z) in
    side-narrow kept (ap offsets_in c.in-Four.is) c.requires c.parts-base.ensures.whole c.nulls-nulls.ensures c.parts-base.ensures.long
