use Rattle.std.proofs.Common.{◌∙◌, List, ap, subst, sym}
use Rattle.cq_values.specs.Value.{Row}
use Rattle.cq_segments_pieces.specs.Columns.{AreWide}
use Rattle.cq_segments_pieces.specs.Marked.{rows_of}
use Rattle.cq_segments_pieces.proofs.Marks.{rows_of-mark}
use Rattle.cq_writestore.proofs.tests.mark_at.Goals as goal

pub returns-then-place-len : goal.returns-then-place-len
returns-then-place-len c = subst (λ (l : List Row). AreWide 1 l) (sym (ap rows_of c.mark.ensures.rows ∙ rows_of-mark c.args.store.now.rows c.args.place)) c.requires
