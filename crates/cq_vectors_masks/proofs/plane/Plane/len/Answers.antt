use Rattle.std.proofs.Common.{length, sym, ap, ◌∙◌}
use Rattle.cq_vectors_masks.proofs.PlaneLemmas.{length-flags}
use Rattle.cq_vectors_masks.proofs.plane.Plane.len.Goals as goal

pub returns-clause-len : goal.returns-clause-len
returns-clause-len c = sym (length-flags c.self.inside.words c.self.inside.len) ∙ ap length c.self.view_is
