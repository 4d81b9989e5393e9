use denote.Text.{Utf8}
use denote.Shadow.{shadow}
use Rattle.std.proofs.Common.{◌≡◌, ◌∷◌, true, length}
use Rattle.std.specs.Str.{chars}
use Rattle.cq_model.specs.Like.{like, percent}
use Rattle.cq_prims_like.specs.Patterns.{are_single}
use Rattle.cq_prims_like.proofs.around.fits_end.Given as goal

-- the signs that are left fit an end of what is left of the text just where all fit
abbrev pub invariant-loop-sign : goal.invariant-loop-sign
invariant-loop-sign l =
    shadow (Utf8 l.left) × shadow (Utf8 l.front) × (are_single (chars l.left) ≡ true)
    × (like (percent ∷ chars l.left) (chars l.front) ≡ like (percent ∷ chars l.signs) (chars l.text))

abbrev pub decreases-loop-sign : goal.decreases-loop-sign
decreases-loop-sign l = length (chars l.left)
