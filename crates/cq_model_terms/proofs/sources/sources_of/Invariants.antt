use Rattle.std.proofs.Common.{◌≡◌, ◌∷◌, map, take}
use Rattle.cq_model_terms.proofs.sources.sources_of.Given as goal

-- the sources so far are the first and those of the joins so far
abbrev pub invariant-loop-join : goal.invariant-loop-join
invariant-loop-join l = l.sources.items ≡ l.query.first ∷ map (λ j. j.source) (take l.join-index l.query.joins)
