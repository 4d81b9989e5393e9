use Rattle.std.proofs.Common.{◌∙◌, ap, get_or, false}
use Rattle.cq_vectors_masks.proofs.PlaneLemmas.{is_set_word}
use Rattle.cq_vectors_masks.proofs.plane.Plane.get.Goals as goal

pub returns : goal.returns
returns c = is_set_word c.self.inside.words c.args.place ∙ c.self.invariant.1 c.args.place ∙ ap (λ l. get_or l c.args.place false) c.self.view_is
