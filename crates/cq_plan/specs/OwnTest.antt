-- One condition on the rows of a source, in place of the parts of WHERE that are its own.
use Rattle.std.specs.Prelude.{◌≡◌, ◌<◌, ◌-◌, ◌^◌, ℕ, List, map, Option}
use Rattle.std.specs.Borrow.{Bor}
use Rattle.cq_values.specs.Value.{Row}
use Rattle.cq_model.specs.Own.{in_place, passes_own}
use Rattle.cq_model.specs.Expr.{Cond}
use Rattle.cq_model.specs.Meaning.{keeps}
use Rattle.cq_model.specs.Trees.{cond_of}
use Rattle.cq_model.specs.Width.{IsNarrowIn}
use Rattle.cq_model.specs.declared.expr.CondTree.{CondTree}
use Rattle.cq_model_terms.specs.Renamed.{renamed_cond}
use Rattle.cq_plan.specs.Own.{AreOwnOf, AskAllOwnOf}

-- a condition on joined rows, on the rows of a source that stands behind so many columns
abbrev pub cond_behind : ℕ → Cond → Cond
cond_behind before = renamed_cond (λ i. i - before)

-- these are conditions that are lent, on the rows of such a source
abbrev pub AreBehind : ℕ → List (Bor CondTree) → List CondTree → Type 0
AreBehind before parts all = map cond_of all ≡ map (λ tree. cond_behind before (cond_of tree.now)) parts

-- it keeps the rows that pass own conditions of WHERE in their place of a joined row, all of them where that place can be
-- told, and works out nothing too wide where WHERE does not
pub record IsOwnTest (where_is : Option Cond) (before wide : ℕ) (condition : Option Cond) : Type 0 where
  pub parts : List Cond
  pub own : AreOwnOf where_is before wide parts
  pub all : before < 2 ^ 64 → AskAllOwnOf where_is before wide parts
  pub same : (row : Row) → keeps condition row ≡ passes_own before parts row
  pub narrow : (row : Row) → IsNarrowIn where_is (in_place before row) → IsNarrowIn condition row
