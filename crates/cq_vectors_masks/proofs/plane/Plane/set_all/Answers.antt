use Rattle.std.proofs.Common.{◌∙◌, sym}
use Rattle.std.specs.List.{range_with_len}
use Rattle.std.proofs.lemmas.List.FromFn.{length-range_with_len}
use Rattle.std.proofs.lemmas.Simd.{splat_is_map}
use Rattle.cq_vectors_masks.proofs.plane.Plane.set_all.Goals as goal

pub returns : goal.returns
returns c = c.set_where.ensures ∙ sym (splat_is_map (range_with_len 0 c.args.len) c.args.len c.args.flag (length-range_with_len 0 c.args.len))
