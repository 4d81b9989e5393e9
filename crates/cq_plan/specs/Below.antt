-- Sources whose rows pass conditions of WHERE before any join, where these are the source's own.
use Rattle.std.specs.Prelude.{◌≡◌, ℕ, ◌+◌, List, [], ◌∷◌, Option, filter}
use Rattle.cq_model.specs.Own.{passes_own}
use Rattle.cq_model.specs.Expr.{Cond}
use Rattle.cq_values.specs.Value.{Row}
use Rattle.cq_plan.specs.Chain.{AreAsWide, ChainedSource}
use Rattle.cq_plan.specs.Own.{AreOwnOf, AskAllOwnOf}

-- what passes own conditions of WHERE of a source's rows: all that are the source's own
pub record ArePassing (where_is : Option Cond) (before wide : ℕ) (rows passing : List Row) : Type 0 where
  pub conditions : List Cond
  pub own : AreOwnOf where_is before wide conditions
  pub all : AskAllOwnOf where_is before wide conditions
  pub are : passing ≡ filter (passes_own before conditions) rows

-- sources that are joined, each with the rows that pass own conditions, and with the same ON
abbrev pub LinksPass : Option Cond → ℕ → List ℕ → List ChainedSource → List ChainedSource → Type 0
LinksPass where_is before [] [] [] = Unit {0}
LinksPass where_is before (wide ∷ widths) (link ∷ links) (passed ∷ others) =
    (passed.0 ≡ link.0) × ArePassing where_is before wide link.1 passed.1 × LinksPass where_is (before + wide) widths links others
LinksPass where_is before widths links others = ⊥

-- joined sources of these widths behind so many columns, and the same ones with the rows that pass
pub record AllPass (where_is : Option Cond) (before : ℕ) (widths : List ℕ) (links passed : List ChainedSource) : Type 0 where
  pub wide : AreAsWide widths links
  pub pass : LinksPass where_is before widths links passed
