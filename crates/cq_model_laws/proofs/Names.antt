-- An expression or a condition depends on the columns alone that it names.
use Rattle.std.proofs.Common.{◌≡◌, ℕ, Bool, true, false, ◌&&◌, List, [], ◌∷◌, map, refl, ◌∙◌, ap, ap₂}
use Rattle.std.specs.List.{list_all}
use Rattle.cq_values.specs.declared.value.Value.{Value}
use Rattle.cq_values.specs.Truth.{not_truth, and_truth, or_truth, truth_of}
use Rattle.cq_values.specs.Value.{Row, column}
use Rattle.cq_values.specs.declared.comparison.Comparison.TheVariants.{Equal}
use Rattle.cq_values.specs.Comparison.{compared}
use Rattle.cq_model.specs.Condition.{is_null, liked, between, any_of, holds}
use Rattle.cq_model.specs.Eval.{negated, plus, times, extracted, eval}
use Rattle.cq_model.specs.Expr.{Expr, Column, Literal, Negate, Plus, Times, Extract, Cond, Compare, IsNull, Between, In, Like, Not, And, Or}
use Rattle.cq_model.specs.Own.{is_within, names_only, tests_only}

-- what holds of both holds of each
pub both-first : (a b : Bool) → a && b ≡ true → a ≡ true
both-first true b h = refl
both-first false b h = absurd (cc)

-- and of the second
pub both-second : (a b : Bool) → a && b ≡ true → b ≡ true
both-second true b h = h
both-second false b h = absurd (cc)

-- where two expressions name these columns alone, so does each
module _ (before wide : ℕ) (a b : Expr) (h : names_only before wide a && names_only before wide b ≡ true) where
  first-names : names_only before wide a ≡ true
  first-names = both-first (names_only before wide a) (names_only before wide b) h

  second-names : names_only before wide b ≡ true
  second-names = both-second (names_only before wide a) (names_only before wide b) h

-- so it is with two conditions
module _ (before wide : ℕ) (a b : Cond) (h : tests_only before wide a && tests_only before wide b ≡ true) where
  first-tests : tests_only before wide a ≡ true
  first-tests = both-first (tests_only before wide a) (tests_only before wide b) h

  second-tests : tests_only before wide b ≡ true
  second-tests = both-second (tests_only before wide a) (tests_only before wide b) h

-- two rows that have these columns in common
module _ (before wide : ℕ) (r q : Row) (same : (i : ℕ) → is_within before wide i ≡ true → column r i ≡ column q i) where
  -- an expression of these columns has one value in both
  pub eval-same : (e : Expr) → names_only before wide e ≡ true → eval e r ≡ eval e q
  eval-same (Column i) h = same i h
  eval-same (Literal v) h = refl
  eval-same (Negate e) h = ap negated (eval-same e h)
  eval-same (Plus a b) h = ap₂ plus (eval-same a (first-names before wide a b h)) (eval-same b (second-names before wide a b h))
  eval-same (Times a b) h = ap₂ times (eval-same a (first-names before wide a b h)) (eval-same b (second-names before wide a b h))
  eval-same (Extract part e) h = ap (extracted part) (eval-same e h)

  -- comparisons with several expressions
  members-same : (v : Value) (es : List Expr) → list_all (names_only before wide) es ≡ true
      → map (λ x. compared Equal v (eval x r)) es ≡ map (λ x. compared Equal v (eval x q)) es
  members-same v [] h = refl
  members-same v (e ∷ es) h =
      let first = both-first (names_only before wide e) (list_all (names_only before wide) es) h in
      let rest = both-second (names_only before wide e) (list_all (names_only before wide) es) h in
      λ i. compared Equal v (eval-same e first i) ∷ members-same v es rest i

  -- a condition on these columns has one truth in both
  pub holds-same : (c : Cond) → tests_only before wide c ≡ true → holds c r ≡ holds c q
  holds-same (Compare c a b) h = ap₂ (compared c) (eval-same a (first-names before wide a b h)) (eval-same b (second-names before wide a b h))
  holds-same (IsNull e) h = ap (λ v. truth_of (is_null v)) (eval-same e h)
  holds-same (Between e a b) h =
      let bounds = both-second (names_only before wide e) (names_only before wide a && names_only before wide b) h in
      let p = eval-same e (both-first (names_only before wide e) (names_only before wide a && names_only before wide b) h) in
      let s = eval-same a (first-names before wide a b bounds) in
      let t = eval-same b (second-names before wide a b bounds) in
      λ i. between (p i) (s i) (t i)
  holds-same (In e es) h =
      let p = eval-same e (both-first (names_only before wide e) (list_all (names_only before wide) es) h) in
      let rest = both-second (names_only before wide e) (list_all (names_only before wide) es) h in
      ap (λ v. any_of (map (λ x. compared Equal v (eval x r)) es)) p ∙ ap any_of (members-same (eval e q) es rest)
  holds-same (Like e pattern) h = ap (λ v. liked v pattern) (eval-same e h)
  holds-same (Not c) h = ap not_truth (holds-same c h)
  holds-same (And a b) h = ap₂ and_truth (holds-same a (first-tests before wide a b h)) (holds-same b (second-tests before wide a b h))
  holds-same (Or a b) h = ap₂ or_truth (holds-same a (first-tests before wide a b h)) (holds-same b (second-tests before wide a b h))
