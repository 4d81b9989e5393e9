use Rattle.std.proofs.Common.{List, [], ◌+◌, take, refl, sym, subst}
use Rattle.cq_test_plain.specs.declared.source_rows.Lent.{Lent}
use Rattle.cq_test_plain.specs.Lent.{HoldRows}
use Rattle.cq_test_plain.proofs.Lents.{table-held}
use Rattle.cq_test_plain.proofs.lent.lent_tables.Goals as goal

pub loop-number-preserved : goal.loop-number-preserved
loop-number-preserved c =
    subst (λ (sources : List Lent). HoldRows (take (c.loop-number.number + 1) c.args.tables.now) [] sources) (sym c.in_ok-push.ensures.items)
    (table-held c.args.tables.now c.loop-number.number c.index-tables-number.result c.loop-number.sources.items _ c.loop-number-test.true c.index-tables-number.is refl c.as_slice.ensures c.loop-number.invariant)
