use Rattle.cq_encodings_vectors.proofs.CopiedAt.{clear-more}
use Rattle.cq_encodings_vectors.proofs.column_nulls.are_clear.Goals as goal

pub loop-k-preserved : goal.loop-k-preserved
loop-k-preserved c = clear-more c.args.nulls.now c.loop-k.k c.loop-k.invariant c.if-not-is_clear_part.ensures
