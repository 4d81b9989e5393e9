-- Rows that are kept front by front.
use Rattle.std.proofs.Common.{◌≡◌, Bool, List, [], ◌++◌, sym, ◌∙◌, ap, subst}
use Rattle.std.specs.List.{AllByRecursion, filter}
use Rattle.std.proofs.lemmas.List.{append_assoc}
use Rattle.std.proofs.lemmas.List.Elements.{filter-append}
use Rattle.cq_values.specs.Value.{Row}
use Rattle.cq_model_bags.proofs.Lists.{all-back}

-- what holds of all holds of what is behind a front
pub all-behind : {X : Type 0} (P : X → Type 0) (whole front rest : List X) → whole ≡ front ++ rest → AllByRecursion P whole → AllByRecursion P rest
all-behind P whole front rest parts all = all-back P front rest (subst (AllByRecursion P) parts all)

module _ (p : Row → Bool) (left front rest : List Row) (parts : left ≡ front ++ rest) where
  -- what is kept of a front, and of what is behind it, is kept of the whole
  pub front-kept : (before kept whole : List Row) → kept ≡ before ++ filter p front → before ++ filter p left ≡ whole → kept ++ filter p rest ≡ whole
  front-kept before kept whole more so_far =
      ap (λ (rs : List Row). rs ++ filter p rest) more ∙ append_assoc before (filter p front) (filter p rest)
      ∙ ap (λ (rs : List Row). before ++ rs) (sym (ap (filter p) parts ∙ filter-append p front rest)) ∙ so_far

  -- where none of the front is kept, what is behind it keeps all
  pub front-dropped : filter p front ≡ [] → filter p left ≡ filter p rest
  front-dropped none = ap (filter p) parts ∙ filter-append p front rest ∙ ap (λ (rs : List Row). rs ++ filter p rest) none
