use Rattle.cq_model.specs.Meaning.{items_of}
use Rattle.cq_model.specs.Width.{AreNarrowAt}
use Rattle.cq_views_state.proofs.InTurn.{made-more}
use Rattle.cq_views_state.proofs.showing.worked_out.Goals as goal
use Rattle.cq_model_bags.proofs.Lists.{all-there}

pub items_of-requires : goal.items_of-requires
items_of-requires c = all-there (AreNarrowAt c.args.items.now) c.args.rows.now.rows c.loop-place.place c.row.result.now c.row.ensures c.requires

pub loop-place-preserved : goal.loop-place-preserved
loop-place-preserved c =
    made-more c.rows_come_in_turn.ensures c.args.rows.now.rows c.loop-place.place c.row.result.now c.row.ensures (items_of c.args.items.now) c.loop-place.shown.items c.push.new.self.items c.in_ok-items_of.field-0
    c.loop-place.invariant c.in_ok-push.ensures.items c.in_ok-items_of.ensures
