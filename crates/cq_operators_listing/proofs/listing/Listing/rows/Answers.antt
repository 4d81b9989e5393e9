use Rattle.std.proofs.Common.{ap, ◌∙◌}
use Rattle.std.proofs.lemmas.Result.{IfOk-weaker}
use Rattle.cq_operators_listing.specs.Stored.{AreListed, StoredListing}
use Rattle.cq_operators_listing.proofs.Fronts.{lists_kept}
use Rattle.cq_operators_listing.proofs.listing.Listing.rows.Goals as goal

-- what is listed of the kept rows
pub returns : goal.returns
returns c all can =
    IfOk-weaker c.first_rows.result _ (AreListed c.args.self all)
    (λ first listed.
    lists_kept c.args.self _ _ _ first (c.as_slice.ensures ∙ ap (λ (s : StoredListing). s.keys) c.self.view_is) (ap (λ (s : StoredListing). s.limit) c.self.view_is)
    (ap (λ (s : StoredListing). s.rows) c.self.view_is) listed all can)
    c.first_rows.ensures
