use Rattle.std.proofs.Common.{List, ◌∷◌, [], ◌++◌, cond, sym, ap, ◌∙◌}
use Rattle.std.specs.List.{list_any}
use Rattle.cq_values.specs.Value.{Row}
use Rattle.cq_values.specs.Order.{same_row}
use Rattle.cq_test_plain.proofs.Once.{firsts_next}
use Rattle.cq_test_plain.proofs.repeats.firsts.Goals as goal

pub loop-row-preserved : goal.loop-row-preserved
loop-row-preserved c =
    c.in_ok-push_new.ensures
    ∙ ap (λ (found : List Row). cond (list_any (λ other. same_row other c.row-item.result) found) found (found ++ c.row-item.result ∷ [])) c.loop-row.invariant
    ∙ sym (firsts_next c.args.rows.now c.loop-row.row-index c.row-item.result c.loop-row-test.true c.row-item.is)
