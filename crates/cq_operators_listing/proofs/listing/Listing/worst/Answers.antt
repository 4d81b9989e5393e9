use Rattle.std.proofs.Common.{◌-◌, ◌∙◌, ap, subst}
use Rattle.cq_values_rows.specs.Columns.{row_or_none}
use Rattle.cq_operators_listing.specs.Front.{IsFront}
use Rattle.cq_operators_listing.specs.Stored.{StoredListing}
use Rattle.cq_operators_listing.proofs.Fronts.{front_of, worst_of}
use Rattle.cq_operators_listing.proofs.listing.Listing.worst.Goals as goal

pub returns-in-Some : goal.returns-in-Some
returns-in-Some c =
    let count = c.in-Some.count in
    let front = subst (λ (s : StoredListing). IsFront s count) c.self.view_is (front_of _ c.self.inside.front count c.in-Some.is c.self.invariant) in
    worst_of c.args.self.now count c.row.result c.if-count-gt0.true (c.row.ensures ∙ ap (λ (s : StoredListing). row_or_none s.rows (count - 1)) c.self.view_is) front
