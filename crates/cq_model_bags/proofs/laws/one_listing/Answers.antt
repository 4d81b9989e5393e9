use Rattle.cq_model_bags.proofs.Listings.{one_listing}
use Rattle.cq_model_bags.proofs.laws.one_listing.Goals as goal

pub returns : goal.returns
returns c = one_listing
