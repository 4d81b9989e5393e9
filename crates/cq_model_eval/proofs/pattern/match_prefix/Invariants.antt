use denote.Shadow.{shadow}
use denote.Text.{Utf8}
use Rattle.std.proofs.Common.{◌≡◌, length}
use Rattle.std.specs.Str.{chars}
use Rattle.cq_model_eval.specs.PatternPrefix.{prefix_match}
use Rattle.cq_model_eval.proofs.pattern.match_prefix.Given as goal

-- what is left finds what all does
abbrev pub invariant-loop-sign : goal.invariant-loop-sign
invariant-loop-sign l =
    shadow (Utf8 l.pattern) × shadow (Utf8 l.text) × (prefix_match (chars l.pattern) (chars l.text) ≡ prefix_match (chars l.initial.pattern) (chars l.initial.text))

abbrev pub decreases-loop-sign : goal.decreases-loop-sign
decreases-loop-sign l = length (chars l.pattern)
