use Rattle.std.proofs.Common.{drop}
use Rattle.cq_operators_conditions.specs.Passing.{passing_rows}
use Rattle.cq_operators_conditions.proofs.Standing.{LeftToPlace}
use Rattle.cq_operators_conditions.proofs.places.segment_passing.Given as goal

-- the pieces that are left complete the places
abbrev pub invariant-loop-piece : goal.invariant-loop-piece
invariant-loop-piece l = LeftToPlace (passing_rows l.before l.conditions) l.segment (drop l.piece-index l.piece-items) l.start l.passing.items
