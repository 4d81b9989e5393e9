use Rattle.std.proofs.Common.{arith, subst}
use Rattle.std.proofs.lemmas.List.{take_all}
use Rattle.cq_writestore_rows.specs.Filling.{Adds}
use Rattle.cq_writestore_rows.proofs.Adding.{adds-next, adds-none, can_follow-next}
use Rattle.cq_writestore.proofs.refilled.put_rows.Goals as goal

pub loop-row-init : goal.loop-row-init
loop-row-init c = adds-none c.args.filling.now c.requires.none

pub push_row-requires : goal.push_row-requires
push_row-requires c = can_follow-next c.args.rows.now c.loop-row.row-index c.row-item.result c.loop-row-test.true c.row-item.is c.args.filling.now c.loop-row.filling c.loop-row.invariant c.requires

pub loop-row-preserved : goal.loop-row-preserved
loop-row-preserved c = adds-next c.args.rows.now c.loop-row.row-index c.row-item.result c.loop-row-test.true c.row-item.is c.args.filling.now c.loop-row.filling c.loop-row.invariant c.push_row.new.self c.in_ok-push_row.ensures

pub returns : goal.returns
returns c = subst (λ l. Adds l c.args.filling.now c.loop-row.filling) (take_all c.loop-row.row-index c.args.rows.now (omega (arith, c.loop-row-test.false))) c.loop-row.invariant
