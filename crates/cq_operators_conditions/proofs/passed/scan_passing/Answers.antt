use Rattle.std.proofs.Common.{◌∙◌, ap, arith, length, sym}
use Rattle.std.proofs.lemmas.Result.{IfOk-weaker}
use Rattle.cq_table_columns.specs.Stored.{front_rows}
use Rattle.cq_model.specs.Own.{passes_own}
use Rattle.cq_operators_conditions.specs.Passing.{conditions_in}
use Rattle.cq_operators_conditions.proofs.passed.scan_passing.Goals as goal
use Rattle.cq_model_bags.proofs.Lists.{fewer}

pub open_stored-requires : goal.open_stored-requires
open_stored-requires c =
    omega (arith, ap length (c.in_ok-live_rows.ensures ∙ sym c.in-Some.ensures ∙ c.in_ok-passed.ensures), fewer (passes_own 0 (conditions_in c.args.conditions.now)) (front_rows c.args.front.now), c.requires.few)

pub open_stored-requires-in-Some : goal.open_stored-requires-in-Some
open_stored-requires-in-Some c =
    omega (arith, ap length c.in_ok-passed.ensures, fewer (passes_own 0 (conditions_in c.args.conditions.now)) (front_rows c.args.front.now), c.requires.few)

pub open_stored-requires-2 : goal.open_stored-requires-2
open_stored-requires-2 c =
    omega (arith, ap length c.in_ok-passed.ensures, fewer (passes_own 0 (conditions_in c.args.conditions.now)) (front_rows c.args.front.now), c.requires.few)

pub returns-then-is_empty : goal.returns-then-is_empty
returns-then-is_empty c =
    IfOk-weaker c.open_stored.result _ _ (λ scan h. h ∙ c.in_ok-live_rows.ensures ∙ sym c.in-Some.ensures ∙ c.in_ok-passed.ensures) c.open_stored.ensures
