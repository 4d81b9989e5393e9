use Rattle.cq_vectors_stored.specs.Offsets.{offsets_in}
use Rattle.cq_prims_texts.proofs.Shown.{codes_show_texts}
use Rattle.cq_prims_texts.proofs.text_side.TextSide.of_codes.Goals as goal

pub returns : goal.returns
returns c = codes_show_texts c.parts.result.0.now (offsets_in c.parts.result.1) c.args.texts.now c.parts.ensures.whole c.nulls-nulls.result.now c.nulls-nulls.ensures
