use Rattle.std.proofs.Common.{subst}
use Rattle.cq_views_state.proofs.Showings.{images-bag}
use Rattle.cq_views_state.proofs.Sizing.{images-sized}
use Rattle.cq_views_state.specs.Shown.{StandsOnStored}
use Rattle.cq_views_state.specs.declared.last.Last.{Last}
use Rattle.cq_views_state.proofs.showing.shown_rows.Goals as goal

pub listed-requires : goal.listed-requires
listed-requires c =
    let on = subst (λ (l : Last). StandsOnStored c.args.query.now l) c.in-Images.is c.requires.on in
    images-bag c.args.query.now c.in-Images.images.entries on.xs on.stands on.bag

pub returns-in_ok-rows-in-Images-clause-sized : goal.returns-in_ok-rows-in-Images-clause-sized
returns-in_ok-rows-in-Images-clause-sized c =
    let on = subst (λ (l : Last). StandsOnStored c.args.query.now l) c.in-Images.is c.requires.on in
    rw c.flat.ensures (images-sized c.args.query.now c.in-Images.images c.in_ok-rows-in-Images.rows.rows c.in_ok-rows-in-Images.ensures on)
