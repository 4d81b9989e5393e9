use Rattle.std.proofs.Common.{◌∙◌, ap, List, map}
use Rattle.cq_values.specs.Value.{Row}
use Rattle.cq_table_columns.specs.Stored.{front_rows}
use Rattle.cq_model.specs.Condition.{holds}
use Rattle.cq_operators_conditions.proofs.PlacesWhere.{where-true}
use Rattle.cq_operators_conditions.proofs.keeping.true_places.Goals as goal

pub returns : goal.returns
returns c =
    let are = c.in_ok-truths.ensures ∙ ap (λ (rows : List Row). map (holds c.args.condition.now) rows) c.in_ok-scan.ensures in
    c.set_true.ensures ∙ where-true (holds c.args.condition.now) (front_rows c.args.front.now) c.in_ok-truths.truths are
