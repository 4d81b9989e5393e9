-- WHERE of which each part that AND joins is one source's own.
use Rattle.std.specs.Prelude.{◌≡◌, ℕ, ◌+◌, Bool, true, false, ◌&&◌, ◌||◌, List, [], ◌∷◌, Option, Some, None}
use Rattle.std.specs.List.{list_any}
use Rattle.cq_model.specs.Own.{tests_only}
use Rattle.cq_model.specs.Expr.{Cond, And}
use Rattle.cq_plan.specs.declared.plans.PlannedSource.{PlannedSource}

-- whether a condition names the columns of one source alone: the sources stand behind so many columns and are so wide
abbrev pub names_one : ℕ → List ℕ → Cond → Bool
names_one before [] c = false
names_one before (wide ∷ widths) c = tests_only before wide c || names_one (before + wide) widths c

-- whether each part does
abbrev pub each_names_one : List ℕ → Cond → Bool
each_names_one widths (And a b) = each_names_one widths a && each_names_one widths b
each_names_one widths c = names_one 0 widths c

-- so it is with WHERE
abbrev pub AreEachOwn : Option Cond → List ℕ → Type 0
AreEachOwn None widths = Unit {0}
AreEachOwn (Some filter) widths = each_names_one widths filter ≡ true

-- ---- The same of planned sources
-- whether a condition names the columns of one of these alone
abbrev pub is_of_one : List PlannedSource → Cond → Bool
is_of_one sources c = list_any (λ s. tests_only s.before s.wide c) sources

-- whether each part does
abbrev pub each_is_of_one : List PlannedSource → Cond → Bool
each_is_of_one sources (And a b) = each_is_of_one sources a && each_is_of_one sources b
each_is_of_one sources c = is_of_one sources c
