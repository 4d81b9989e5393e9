use Rattle.std.proofs.lemmas.Str.Pattern.{starts_text}
use Rattle.cq_prims_like.proofs.Fitting.{prefix_fits}
use Rattle.cq_prims_like.proofs.pattern.begins.Goals as goal

pub returns : goal.returns
returns c pattern form =
    let text = c.args.text.now in
    let front = c.args.front.now in
    let r = c.starts_with.result in
    prefix_fits text c.utf8.text front pattern c.utf8.front form r (starts_text r front text c.starts_with.ensures.cases)
