use Rattle.cq_views_state.proofs.Changing.{row-narrow}
use Rattle.cq_views_state.proofs.imaging.ImageTakerTakes.take.Goals as goal

pub items_of-requires : goal.items_of-requires
items_of-requires c = rw c.as_slice.ensures (row-narrow c.args.self.now.query.now c.requires.can c.requires.plain c.args.row.now c.requires.stored)
