use Rattle.std.proofs.lemmas.Bool.{OnFalse_at}
use Rattle.cq_operators_conditions.specs.Skipping.{bounded_rows}
use Rattle.cq_operators_conditions.proofs.Skipped.{none-first, none-part}
use Rattle.cq_operators_conditions.proofs.skipping.+may_hold.Goals as goal

pub returns-then-not-may_hold : goal.returns-then-not-may_hold
returns-then-not-may_hold t c =
    none-first c.args.before (bounded_rows c.args.rows.now) c.args.condition.now c.in-And.first c.in-And.rest c.in-And.is c.deref-in-And.result.now c.deref-in-And.ensures (OnFalse_at c.if-not-may_hold.true c.may_hold.ensures)

pub returns-then-not-may_hold-2 : goal.returns-then-not-may_hold-2
returns-then-not-may_hold-2 t c =
    none-part c.args.before (bounded_rows c.args.rows.now) c.args.condition.now c.in-And.first c.in-And.rest c.in-And.is c.deref-part-items.result.now c.loop-part.part-index c.part-item.result
    c.deref-part-items.ensures.value c.loop-part-test.true c.part-item.is (OnFalse_at c.if-not-may_hold-2.true c.may_hold-in-loop-part.ensures)
