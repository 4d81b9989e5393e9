use Rattle.std.proofs.Common.{◌∙◌}
use Rattle.cq_encodings_vectors.proofs.AtPlaces.{clear-at}
use Rattle.cq_encodings_vectors.proofs.column_nulls.flags_of.Goals as goal

pub returns-then-are_clear : goal.returns-then-are_clear
returns-then-are_clear c = c.set_all.ensures ∙ clear-at c.args.nulls.now c.args.places.now c.if-are_clear.ensures
