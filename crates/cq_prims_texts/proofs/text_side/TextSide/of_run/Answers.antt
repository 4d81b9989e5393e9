use Rattle.cq_prims_texts.proofs.Shown.{run_shows_texts}
use Rattle.cq_prims_texts.proofs.text_side.TextSide.of_run.Goals as goal

pub returns : goal.returns
returns c = run_shows_texts c.parts-start.result.0.now c.parts-start.result.1 c.args.part.now c.parts-start.ensures.whole c.nulls-nulls.result.now c.nulls-nulls.ensures
