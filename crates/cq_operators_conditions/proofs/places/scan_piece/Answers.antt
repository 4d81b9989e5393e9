use Rattle.std.proofs.Common.{ap, arith, length}
use Rattle.cq_model.specs.Own.{passes_own}
use Rattle.cq_model_bags.proofs.Lists.{fewer}
use Rattle.cq_segments_pieces.specs.Marked.{live}
use Rattle.cq_segments_pieces.proofs.Marks.{length-live}
use Rattle.cq_operators_conditions.specs.Passing.{conditions_in}
use Rattle.cq_operators_conditions.proofs.places.scan_piece.Goals as goal

pub open_stored-requires : goal.open_stored-requires
open_stored-requires c =
    omega (arith, ap length c.in_ok-passed.ensures.rows, fewer (passes_own 0 (conditions_in c.args.conditions.now)) (live c.args.piece.now), length-live c.args.piece.now, c.len-len.ensures.len, c.len-len.ensures.few)
