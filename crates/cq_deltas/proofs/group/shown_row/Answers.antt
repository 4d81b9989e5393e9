use Rattle.std.proofs.Common.{◌≡◌, map, rules, arith, ◌∙◌}
use Rattle.cq_model.specs.declared.fault.ShowFault.TheVariants.{SumOutOfRange}
use Rattle.cq_deltas.specs.Kept.{seen}
use Rattle.cq_deltas.specs.Shown.{AllCanBeShown}
use Rattle.cq_deltas.proofs.Showing.{row-more, range-more, range-at, row-done, range-done}
use Rattle.cq_deltas.proofs.group.shown_row.Goals as goal

pub returns-in_err-value-clause-fault : goal.returns-in_err-value-clause-fault
returns-in_err-value-clause-fault c =
    let fault : c.in_err-value.field-0.0 ≡ SumOutOfRange → AllCanBeShown c.args.aggregates.now (map seen c.args.kept.now) → ⊥ =
    λ is all. c.in_err-value.ensures.fault is
    (range-at c.args.aggregates.now c.args.kept.now c.loop-place.place c.index-aggregates-place.result c.index-kept-place.result (omega arith) (omega arith) c.index-aggregates-place.is c.index-kept-place.is all) in
    search rules

pub loop-place-preserved : goal.loop-place-preserved
loop-place-preserved c = record {
  rows = c.in_ok-push.ensures.rows ∙ c.loop-place.invariant.rows;
  begun =
      c.in_ok-push.ensures.begun ∙ row-more c.args.aggregates.now c.args.kept.now c.loop-place.place c.index-aggregates-place.result c.index-kept-place.result (omega arith) (omega arith)
      c.index-aggregates-place.is c.index-kept-place.is c.args.rows.now.begun c.args.key.now c.loop-place.rows.begun c.in_ok-value.value c.loop-place.invariant.begun c.in_ok-value.ensures.value;
  range =
      range-more c.args.aggregates.now c.args.kept.now c.loop-place.place c.index-aggregates-place.result c.index-kept-place.result (omega arith) (omega arith) c.index-aggregates-place.is c.index-kept-place.is
      c.loop-place.invariant.range c.in_ok-value.ensures.range;
}

pub returns-clause-begun : goal.returns-clause-begun
returns-clause-begun c =
    row-done c.args.aggregates.now c.args.kept.now c.loop-place.place (omega arith) c.args.rows.now.begun c.args.key.now c.loop-place.rows.begun c.loop-place.invariant.begun

pub returns-clause-range : goal.returns-clause-range
returns-clause-range c = range-done c.args.aggregates.now c.args.kept.now c.loop-place.place (omega arith) c.loop-place.invariant.range
