use Rattle.std.proofs.Common.{◌∙◌, ap, length}
use Rattle.std.proofs.lemmas.List.FromFn.{length-map-range_with_len}
use Rattle.cq_prims_lanes.proofs.known.set_known_by.Goals as goal

pub set_known-requires : goal.set_known-requires
set_known-requires g c = ap length c.set_where.ensures ∙ length-map-range_with_len (g.T.PlaceTest.holds c.args.test.now) 0 _ ∙ c.len.ensures.len
