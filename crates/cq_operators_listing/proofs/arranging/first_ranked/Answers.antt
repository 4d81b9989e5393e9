use Rattle.std.proofs.Common.{length, map, sym, ◌∙◌, ap, subst}
use Rattle.std.proofs.lemmas.Result.{IfOk-weaker}
use Rattle.cq_values_rows.specs.Columns.{AreBelow, row_or_none}
use Rattle.cq_model_bags.specs.Bag.{once_each}
use Rattle.cq_model_bags.specs.Listing.{IsListing}
use Rattle.cq_operators_listing.proofs.Rows.{first_below, listing-first, places_below, rows_at_places}
use Rattle.cq_operators_listing.proofs.arranging.first_ranked.Goals as goal

-- each place is that of a row
pub at_places-requires : goal.at_places-requires
at_places-requires c =
    let rows = c.args.rows.now in
    let first = c.in_ok-places.ensures in
    subst (AreBelow (length rows)) (sym (c.deref.ensures.value ∙ first.2)) (places_below (length rows) first.0 (first_below c.args.keys.now rows c.count_within-count.result first.0 first.1))

pub returns : goal.returns
returns c =
    let keys = c.args.keys.now in
    let rows = c.args.rows.now in
    let first = c.in_ok-places.ensures in
    IfOk-weaker c.at_places.result _ _
    (λ list copied.
    subst (IsListing keys c.args.limit (once_each rows)) (sym (copied ∙ ap (map (row_or_none rows)) (c.deref.ensures.value ∙ first.2) ∙ rows_at_places rows first.0))
    (listing-first keys rows c.count_within-count.result first.0 first.1 c.args.limit (λ rs e. c.count_within-count.ensures.first rs (e ∙ sym c.len.ensures))))
    c.at_places.ensures
