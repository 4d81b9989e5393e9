use denote.Text.{Utf8}
use denote.Shadow.{shadow}
use Rattle.std.proofs.Common.{◌≡◌, ◌∷◌, ◌++◌, length, All}
use Rattle.cq_model.specs.Like.{percent}
use Rattle.cq_prims_like.specs.Patterns.{closed, IsPiece}
use Rattle.cq_prims_like.proofs.pieces.pieces_of.Given as goal

-- the pattern is its pieces so far and the rest, which is text
abbrev pub invariant-loop-piece : goal.invariant-loop-piece
invariant-loop-piece l =
    shadow (Utf8 l.rest) × (l.pattern ≡ percent ∷ (closed l.pieces.items ++ l.rest)) × All IsPiece l.pieces.items

abbrev pub decreases-loop-piece : goal.decreases-loop-piece
decreases-loop-piece l = length l.rest
