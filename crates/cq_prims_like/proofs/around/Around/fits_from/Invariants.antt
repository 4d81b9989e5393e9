use Rattle.std.proofs.Common.{◌+◌, length}
use Rattle.std.specs.Prelude.{MatchOption}
use Rattle.memchr.specs.Find.{Nowhere, OccursAt}
use Rattle.cq_prims_like.specs.Patterns.{FitsAt}
use Rattle.cq_prims_like.proofs.AroundLemmas.{places_left}
use Rattle.cq_prims_like.proofs.around.Around.fits_from.Given as goal

-- the pattern fits at no place before the next one of the run
abbrev pub invariant-loop-next : goal.invariant-loop-next
invariant-loop-next l = MatchOption l.next
    (Nowhere (FitsAt l.self l.text) 0 (length l.text + 1))
    (λ place. OccursAt l.text l.self.run place × Nowhere (FitsAt l.self l.text) 0 place)

abbrev pub decreases-loop-next : goal.decreases-loop-next
decreases-loop-next l = places_left l.next (length l.text)
