use Rattle.std.proofs.Common.{◌∙◌, arith}
use Rattle.cq_vectors_stored.proofs.TextRunLemmas.{ends_long, laid_seen, up_to_end}
use Rattle.cq_vectors_stored.proofs.text_run.TextRun.end.Goals as goal

pub index-requires : goal.index-requires
index-requires c = omega (arith, c.requires, ends_long (laid_seen c.self.view_is c.self.invariant))

pub returns : goal.returns
returns c = c.index.ensures ∙ up_to_end (laid_seen c.self.view_is c.self.invariant) c.args.i _ c.requires
