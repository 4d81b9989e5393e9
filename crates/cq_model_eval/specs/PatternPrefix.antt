-- What the characters of a pattern before its first '%' make of a text.
use Rattle.std.specs.Prelude.{ℕ, ◌==◌, ◌||◌, if◌then◌else◌, List, [], ◌∷◌}
use Rattle.std.specs.Str.{chars}
use Rattle.cq_model_eval.specs.declared.pattern.PrefixMatch.{PrefixMatch}
use Rattle.cq_model_eval.specs.declared.pattern.PrefixMatch.TheVariants as matches
use Rattle.cq_model.specs.Like.{percent, underscore}

-- a misfit, a fit of the whole, or what is left of the pattern and the text
pub data Found : Type 0 where
  misfit : Found
  whole : Found
  open_end : List ℕ → List ℕ → Found

-- the signs of the pattern before its first '%' are matched one by one
abbrev pub prefix_match : List ℕ → List ℕ → Found
prefix_match [] [] = whole
prefix_match [] (c ∷ text) = misfit
prefix_match (p ∷ pattern) [] = if p == percent then open_end pattern [] else misfit
prefix_match (p ∷ pattern) (c ∷ text) =
    if p == percent then open_end pattern (c ∷ text)
    else if (p == underscore) || (c == p) then prefix_match pattern text
    else misfit

-- what was found, by its characters
abbrev pub seen : PrefixMatch → Found
seen matches.Misfit = misfit
seen matches.Whole = whole
seen (matches.Open pattern text) = open_end (chars pattern.now) (chars text.now)
