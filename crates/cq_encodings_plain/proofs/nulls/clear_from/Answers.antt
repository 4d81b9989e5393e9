use Rattle.std.proofs.Common.{arith, ◌∙◌}
use Rattle.cq_encodings_plain.proofs.Clear.{clear_part}
use Rattle.cq_encodings_plain.proofs.nulls.clear_from.Goals as goal

pub returns : goal.returns
returns c = c.clear_plane.ensures ∙ clear_part c.args.len c.args.start c.min.result (omega (arith, c.min.ensures))
