-- Conditions of WHERE that are one source's own: they name its columns alone, and AND joins them to the rest.
use Rattle.std.specs.Prelude.{◌≡◌, ℕ, true, List, [], map, Option, Some, None}
use Rattle.std.specs.Borrow.{Bor}
use Rattle.cq_model.specs.Own.{AreOwn, IsPart, in_place, passes_own, tests_only}
use Rattle.cq_values.specs.Truth.{is_true}
use Rattle.cq_values.specs.Value.{Row}
use Rattle.cq_model.specs.Condition.{holds}
use Rattle.cq_model.specs.Expr.{Cond}
use Rattle.cq_model.specs.Trees.{cond_of}
use Rattle.cq_model.specs.declared.expr.CondTree.{CondTree}

-- the conditions of trees that are lent
abbrev pub conditions_of : List (Bor CondTree) → List Cond
conditions_of trees = map (λ tree. cond_of tree.now) trees

-- own conditions of WHERE, and none where there is no WHERE
abbrev pub AreOwnOf : Option Cond → ℕ → ℕ → List Cond → Type 0
AreOwnOf None before wide cs = cs ≡ []
AreOwnOf (Some filter) before wide cs = AreOwn filter before wide cs

-- a source's row that passes these passes each part of WHERE that names the source's columns alone
abbrev pub AskAllOwn : Cond → ℕ → ℕ → List Cond → Type 0
AskAllOwn filter before wide cs =
    (part : Cond) (row : Row) → IsPart part filter → tests_only before wide part ≡ true → passes_own before cs row ≡ true
    → is_true (holds part (in_place before row)) ≡ true

-- so it is for a tree's condition, and conditions that are lent
abbrev pub AskAllOfTree : CondTree → ℕ → ℕ → List (Bor CondTree) → Type 0
AskAllOfTree tree before wide trees = AskAllOwn (cond_of tree) before wide (conditions_of trees)

-- so it is for WHERE, if there is one
abbrev pub AskAllOwnOf : Option Cond → ℕ → ℕ → List Cond → Type 0
AskAllOwnOf None before wide cs = Unit {0}
AskAllOwnOf (Some filter) before wide cs = AskAllOwn filter before wide cs

-- the new conditions ask what the old ones ask, and each part of the tree's condition that names the source's columns alone
pub record AskMore (tree : CondTree) (before wide : ℕ) (old new : List (Bor CondTree)) : Type 0 where
  pub kept : (row : Row) → passes_own before (conditions_of new) row ≡ true → passes_own before (conditions_of old) row ≡ true
  pub all : AskAllOfTree tree before wide new

-- where the tree's condition is a part of WHERE, and the old ones are own conditions, so are the new ones
abbrev pub StayOwn : CondTree → ℕ → ℕ → List (Bor CondTree) → List (Bor CondTree) → Type 0
StayOwn tree before wide old new =
    (filter : Cond) → IsPart (cond_of tree) filter → AreOwn filter before wide (conditions_of old) → AreOwn filter before wide (conditions_of new)
