use Rattle.std.proofs.Common.{◌≡◌, ◌∙◌, List, [], ap, subst, sym}
use Rattle.std.proofs.lemmas.Bool.{OnFalse_at}
use Rattle.cq_model.specs.Trees.{cond_of}
use Rattle.cq_table_columns.specs.Stored.{marked_rows}
use Rattle.cq_table_columns.proofs.Parts.{front_live}
use Rattle.cq_operators_conditions.specs.Passing.{passing_rows}
use Rattle.cq_operators_conditions.specs.Skipping.{NoneHolds}
use Rattle.cq_operators_conditions.proofs.Skipped.{none-passes}
use Rattle.cq_operators_conditions.proofs.skipping.is_missed.Goals as goal

pub returns-then-not-may_hold : goal.returns-then-not-may_hold
returns-then-not-may_hold c =
    let front = c.args.front.now in
    let condition = c.condition-item.result in
    let none = subst (NoneHolds c.args.before (cond_of condition.now)) c.in-Some.ensures (OnFalse_at c.if-not-may_hold.true c.may_hold.ensures) in
    ap (passing_rows c.args.before c.args.conditions.now) (front_live front)
    ∙ none-passes c.args.before c.args.conditions.now c.loop-condition.condition-index condition (marked_rows front) c.loop-condition-test.true c.condition-item.is none
