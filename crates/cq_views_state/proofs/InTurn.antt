-- Rows that are read in turn, each by its place.
use Rattle.std.proofs.Common.{◌≡◌, ℕ, ◌+◌, List, [], ◌∷◌, ◌++◌, map, take, slice_get, Some, sym, ◌∙◌, ap, ap₂, subst}
use Rattle.std.proofs.lemmas.List.{map-append}
use Rattle.std.specs.List.{AllByRecursion}
use Rattle.cq_values.specs.Value.{Row}
use Rattle.cq_values_rows.specs.RowList.{RowsComeInTurn}
use Rattle.cq_model_bags.proofs.Lists.{all-append}

module _ (turn : RowsComeInTurn) (rows : List Row) (i : ℕ) (row : Row) (at : slice_get rows i ≡ Some row) where
  -- what holds of each so far and of this one
  pub all-more : (P : Row → Type 0) → AllByRecursion P (take i rows) → P row → AllByRecursion P (take (i + 1) rows)
  all-more P all here = subst (AllByRecursion P) (sym (turn rows i row at)) (all-append P (take i rows) (row ∷ []) all (here, tt))

  -- and what is made of them
  pub made-more : (f : Row → Row) (made more : List Row) (r : Row) → made ≡ map f (take i rows) → more ≡ made ++ r ∷ [] → r ≡ f row → more ≡ map f (take (i + 1) rows)
  made-more f made more r so_far add is =
      add ∙ ap₂ (λ (rs : List Row) (x : Row). rs ++ x ∷ []) so_far is ∙ sym (map-append f (take i rows) (row ∷ [])) ∙ ap (map f) (sym (turn rows i row at))
