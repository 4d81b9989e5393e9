use denote.Shadow.{shadow}
use denote.Text.{Utf8}
use Rattle.std.proofs.Common.{◌≡◌, ◌+◌, length}
use Rattle.std.specs.Str.{chars}
use Rattle.cq_model.specs.Like.{fits_some_end}
use Rattle.cq_model_eval.proofs.pattern.some_end_fits.Given as goal

-- what is left fits as all did
abbrev pub invariant-loop-pattern : goal.invariant-loop-pattern
invariant-loop-pattern l =
    shadow (Utf8 l.pattern) × shadow (Utf8 l.text) × (fits_some_end (chars l.pattern) (chars l.text) ≡ fits_some_end (chars l.initial.pattern) (chars l.initial.text))

abbrev pub decreases-loop-pattern : goal.decreases-loop-pattern
decreases-loop-pattern l = length (chars l.pattern) + length (chars l.text)
