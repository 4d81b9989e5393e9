use Rattle.cq_operators_listing.proofs.Fronts.{front_behind}
use Rattle.cq_operators_listing.proofs.listing.Listing.append.Goals as goal

-- the rows in front stay
pub invariant_of-self-2 : goal.invariant_of-self-2
invariant_of-self-2 c = front_behind c.self.inside.order.now c.self.inside.front c.self.inside.rows c.in_ok-more.more c.append.new.self c.in_ok-append.ensures c.self.invariant
