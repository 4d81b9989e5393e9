use Rattle.std.proofs.Common.{ℕ, Option, subst, sym}
use Rattle.std.specs.Prelude.{IfOk}
use Rattle.cq_model_bags.specs.Bag.{once_each}
use Rattle.cq_model_bags.specs.Listing.{IsListing}
use Rattle.cq_operators_listing.proofs.arranging.first_rows.Goals as goal

pub returns-in-None : goal.returns-in-None
returns-in-None c =
    subst (λ (limit : Option ℕ). IfOk c.all_rows.result (λ first. IsListing c.args.keys.now limit (once_each c.args.rows.now) first)) (sym c.in-None.is) c.all_rows.ensures
