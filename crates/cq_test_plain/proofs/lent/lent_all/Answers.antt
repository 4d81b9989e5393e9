use Rattle.std.proofs.Common.{List, ◌+◌, take, refl, sym, subst}
use Rattle.cq_test_plain.specs.declared.source_rows.Lent.{Lent}
use Rattle.cq_test_plain.specs.Lent.{HoldRows}
use Rattle.cq_test_plain.proofs.Lents.{view-held}
use Rattle.cq_test_plain.proofs.lent.lent_all.Goals as goal

pub loop-number-preserved : goal.loop-number-preserved
loop-number-preserved c =
    subst (λ (sources : List Lent). HoldRows c.args.tables.now (take (c.loop-number.number + 1) c.args.views.now) sources) (sym c.in_ok-push.ensures.items)
    (view-held c.args.tables.now c.args.views.now c.loop-number.number c.index-views-number.result c.loop-number.sources.items _ c.loop-number-test.true c.index-views-number.is refl c.as_slice.ensures c.loop-number.invariant)
