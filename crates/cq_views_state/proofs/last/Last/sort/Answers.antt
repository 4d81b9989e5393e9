use Rattle.std.proofs.Common.{◌∙◌, ap, sym}
use Rattle.cq_views_state.proofs.Behind.{stored-alike}
use Rattle.cq_views_state.specs.Last.{seen}
use Rattle.cq_views_state.proofs.last.Last.sort.Goals as goal

pub returns-in-Groups : goal.returns-in-Groups
returns-in-Groups c = λ aggregates. stored-alike aggregates c.in-Groups.groups c.sort.new.self (rw c.open.ensures.same at c.sort.ensures) ∙ sym (ap (seen aggregates) c.in-Groups.is)
