use Rattle.cq_model.specs.Own.{in_place}
use Rattle.cq_model.specs.Condition.{holds}
use Rattle.cq_model.specs.Trees.{cond_of}
use Rattle.cq_values.specs.Value.{Row}
use Rattle.cq_table_positions.specs.Rows.{rows_in}
use Rattle.cq_operators_scans.proofs.KeptPlaces.{kept-at, kept-places}
use Rattle.cq_operators_scans.proofs.asked.passing_places.Goals as goal

pub returns-clause-there : goal.returns-clause-there
returns-clause-there c =
    kept-places (λ (row : Row). holds (cond_of c.args.condition.now) (in_place c.args.before row)) (rows_in c.args.rows.now) c.in_ok-truths.truths c.in_ok-truths.ensures c.set_true.new.self c.set_true.ensures

pub returns-clause-rows : goal.returns-clause-rows
returns-clause-rows c =
    kept-at (λ (row : Row). holds (cond_of c.args.condition.now) (in_place c.args.before row)) (rows_in c.args.rows.now) c.in_ok-truths.truths c.in_ok-truths.ensures c.set_true.new.self c.set_true.ensures
