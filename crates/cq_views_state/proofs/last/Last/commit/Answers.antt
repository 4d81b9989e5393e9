use Rattle.cq_views_state.proofs.Behind.{groups-go_on, images-go_on, taken-as}
use Rattle.cq_views_state.specs.declared.last.Last.TheVariants.{Groups, Images}
use Rattle.cq_views_state.proofs.last.Last.commit.Goals as goal

pub returns-in-Groups-change : goal.returns-in-Groups-change
returns-in-Groups-change c =
    taken-as _ _ _ _ (Groups c.take.new.self) c.in-Groups.is c.in-Groups-change.is
    (groups-go_on c.in-Groups.groups c.take.new.self c.in-Groups-change.change (rw c.open.ensures.same at c.take.ensures.goes_on))

pub returns-in-Images-change-2 : goal.returns-in-Images-change-2
returns-in-Images-change-2 c =
    taken-as _ _ _ _ (Images c.put_all.new.self) c.in-Images.is c.in-Images-change-2.is
    (images-go_on c.in-Images.images c.in-Images-change-2.change c.put_all.new.self c.put_all.ensures.bag)
