use Rattle.std.proofs.Common.{◌≡◌, ◌∙◌, map}
use Rattle.std.specs.Option.{option_map}
use Rattle.cq_model.specs.declared.query.Shape.TheVariants.{Grouped}
use Rattle.cq_model_terms.specs.Places.{place_in}
use Rattle.cq_views_columns.specs.Renamed.{renamed_aggregate}
use Rattle.cq_model_terms.proofs.Trees.{same-condition}
use Rattle.cq_views_columns.proofs.renamed.renamed_groups.Goals as goal

pub returns : goal.returns
returns c =
    let made = c.in_ok-having-2 in
    let keys : c.in_ok-keys.keys ≡ option_map (map (place_in c.args.places.now)) c.args.keys.now = c.in_ok-keys.ensures in
    let aggregates : made.aggregates ≡ map (renamed_aggregate (place_in c.args.places.now)) c.args.aggregates.now = rw made.ensures.1 at c.renamed_aggregates.ensures in
    let having : made.having ≡ c.args.having.now = made.ensures.0 ∙ c.in_ok-having.ensures ∙ same-condition c.args.having.now in
    λ i. Grouped (keys i) (aggregates i) (having i)
