use Rattle.std.proofs.Common.{◌≡◌, ◌∷◌, map, take}
use Rattle.cq_views.specs.Cut.{width_at}
use Rattle.cq_views.proofs.cutting.cut_widths.Given as goal

-- the widths of the first source, and of those that are joined so far
abbrev pub invariant-loop-join : goal.invariant-loop-join
invariant-loop-join l = l.widths ≡ width_at l.columns l.query.first ∷ map (λ j. width_at l.columns j.source) (take l.join-index l.query.joins)
