use Rattle.std.proofs.Common.{◌∙◌, subst}
use Rattle.cq_vectors_stored.specs.Offsets.{offsets_in}
use Rattle.cq_prims_texts.specs.Named.{IsTold}
use Rattle.cq_prims_texts.proofs.NamedTruths.{named_one}
use Rattle.cq_prims_texts.proofs.by_codes.set_told.Goals as goal

pub returns-in-AtMostOne : goal.returns-in-AtMostOne
returns-in-AtMostOne c =
    let truths = c.args.truths.now in
    c.set_one.ensures ∙ named_one truths (offsets_in c.args.codes) c.args.nulls.now c.requires.known c.in-AtMostOne.one (subst (IsTold truths) c.in-AtMostOne.is c.requires.told)
