use Rattle.std.proofs.Common.{get_or, refl}
use Rattle.cq_model.specs.declared.query.Source.TheVariants.{Table}
use Rattle.cq_engine_answers.specs.Gathered.{IsGathered}
use Rattle.cq_engine_tables.proofs.Pairs.{pointwise_next}
use Rattle.cq_engine_answers.proofs.gathered.gather.Goals as goal

-- one source more was gathered
pub loop-source-preserved : goal.loop-source-preserved
loop-source-preserved c =
    let sources = c.args.sources.now in
    let i = c.loop-source.source-index in
    rw c.in_ok-push.ensures.items
    (pointwise_next (IsGathered c.args.views.now) sources c.loop-source.gathered.items i (get_or sources i (Table 0)) (Table 0) c.in_ok-gather_one.field-0
    c.loop-source-test.true refl c.loop-source.invariant c.in_ok-gather_one.ensures.ok)
