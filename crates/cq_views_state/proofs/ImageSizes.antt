-- The images of rows that WHERE keeps are no larger than the rows.
use Rattle.std.proofs.Common.{◌≡◌, ◌<◌, ◌^◌, ap, arith}
use Rattle.cq_model_bags.specs.Bag.{Weighted}
use Rattle.cq_model.specs.Meaning.{items_of, keeps}
use Rattle.cq_model.specs.declared.query.Query.{Query}
use Rattle.cq_deltas_joins.proofs.Spans.{sizes-filtered}
use Rattle.cq_sides_weights.proofs.RowByRow.{sizes-projected}
use Rattle.cq_sides_weights.specs.Held.{sizes}
use Rattle.cq_views_state.specs.Imaging.{images_of}
use Rattle.cq_views_state.specs.Last.{kept_rows}

pub images-few : (query : Query) (xs images : Weighted) → images ≡ images_of query xs → sizes xs < 2 ^ 127 → sizes images < 2 ^ 127
images-few query xs images are few =
    omega (arith, few, ap sizes are, sizes-projected (items_of query.items) (kept_rows query xs), sizes-filtered (keeps query.filter) xs)
