-- A condition of rows behind NULLs: its truths, and that it is exact.
use Rattle.std.proofs.Common.{◌≡◌, ℕ, List, map, sym, ◌∙◌, ap, subst}
use Rattle.std.specs.List.{AllByRecursion}
use Rattle.cq_model_eval.proofs.Conditions.{map-map}
use Rattle.cq_model.specs.Own.{in_place}
use Rattle.cq_values.specs.Value.{Row}
use Rattle.cq_values.specs.declared.truth.Truth.{Truth}
use Rattle.cq_model.specs.Condition.{holds}
use Rattle.cq_model.specs.Exact.{AreExactIn}
use Rattle.cq_model.specs.Expr.{Cond}
use Rattle.cq_operators_scans.specs.Asked.{IsExactBehind}
use Rattle.cq_model_bags.proofs.Lists.{all-map}

module _ (before : ℕ) (c : Cond) (rows : List Row) where
  -- the truths of the rows behind NULLs are those of the condition in them
  pub truths-behind : (scan : List Row) (truths : List Truth) → scan ≡ map (in_place before) rows → truths ≡ map (holds c) scan → truths ≡ map (λ row. holds c (in_place before row)) rows
  truths-behind scan truths is are = are ∙ ap (map (holds c)) is ∙ map-map (in_place before) (holds c) rows

  -- in which it is exact
  pub exact-behind : (scan : List Row) → scan ≡ map (in_place before) rows → AllByRecursion (IsExactBehind before c) rows → AllByRecursion (AreExactIn c) scan
  exact-behind scan is exact = subst (AllByRecursion (AreExactIn c)) (sym is) (all-map _ (AreExactIn c) (in_place before) (λ row h. h) rows exact)
