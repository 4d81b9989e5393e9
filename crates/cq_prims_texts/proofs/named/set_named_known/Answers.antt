use Rattle.std.proofs.Common.{◌∙◌}
use Rattle.cq_prims_texts.proofs.NamedTruths.{named_known}
use Rattle.cq_prims_texts.proofs.named.set_named_known.Goals as goal

pub returns : goal.returns
returns g c =
    c.set_known_by.ensures ∙ named_known c.args.entries.now (g.N.Naming.numbers c.args.numbers.now) c.args.nulls.now c.requires.known c.requires.none c.requires.same
