use Rattle.std.proofs.Common.{None, refl, subst}
use Rattle.std.specs.Option.{IfSome}
use Rattle.cq_model_bags.specs.Bag.{once_each}
use Rattle.cq_model_bags.specs.Listing.{Lists}
use Rattle.cq_operators_listing.proofs.ByNumbers.{listing-whole}
use Rattle.cq_operators_listing.proofs.arranging.all_rows.Goals as goal

pub returns-in-Some : goal.returns-in-Some
returns-in-Some c =
    let keys = c.args.keys.now in
    let rows = c.args.rows.now in
    listing-whole keys None rows c.in-Some.list refl (subst (λ found. IfSome found (Lists keys (once_each rows))) c.in-Some.is c.in_ok-list.ensures)
