use Rattle.std.proofs.Common.{◌∙◌}
use Rattle.cq_encodings_vectors.proofs.AtPlaces.{clear-at}
use Rattle.cq_encodings_vectors.proofs.nulls_at.nulls_at.Goals as goal

pub returns-then-is_clear : goal.returns-then-is_clear
returns-then-is_clear c = c.set_all.ensures ∙ clear-at c.args.nulls.now c.args.places.now c.if-is_clear.ensures
