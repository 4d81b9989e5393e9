use Rattle.std.proofs.Common.{refl}
use Rattle.cq_engine_answers.specs.Gathered.{IsLent}
use Rattle.cq_engine_tables.proofs.Pairs.{pointwise_next}
use Rattle.cq_engine_tables.specs.HeldTables.{tables_of}
use Rattle.cq_engine_answers.proofs.gathered.lend_all.Goals as goal

-- what was gathered of one source more is lent
pub loop-one-preserved : goal.loop-one-preserved
loop-one-preserved c =
    let tables = tables_of c.args.tables.now in
    rw c.in_ok-push.ensures.items
    (pointwise_next (IsLent tables) c.args.gathered.now c.loop-one.lent.items c.loop-one.one-index c.one-item.result c.one-item.result
    (record { source = c.one-item.result.source; rows = c.rows_there-rows.result }) c.loop-one-test.true c.one-item.is c.loop-one.invariant
    (record { source = refl; rows = rw c.as_slice.ensures at c.rows_there-rows.ensures }))
