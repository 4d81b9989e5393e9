-- Conditions of WHERE that name one source alone and are joined to the rest by AND.
use Rattle.std.specs.Prelude.{◌≡◌, ℕ, ◌+◌, nat_le, nat_lt, Bool, true, ◌&&◌, List, ◌++◌, replicate}
use Rattle.std.specs.List.{list_all, AllByRecursion}
use Rattle.cq_values.specs.declared.value.Value.TheVariants.{Null}
use Rattle.cq_values.specs.Truth.{is_true}
use Rattle.cq_values.specs.Value.{Row}
use Rattle.cq_model.specs.Expr.{Expr, Column, Literal, Negate, Plus, Times, Extract, Cond, Compare, IsNull, Between, In, Like, Not, And, Or}
use Rattle.cq_model.specs.Condition.{holds}

-- whether a column is one of so many from a place on
abbrev pub is_within : ℕ → ℕ → ℕ → Bool
is_within before wide i = nat_le before i && nat_lt i (before + wide)

-- whether an expression names no column but these
abbrev pub names_only : ℕ → ℕ → Expr → Bool
names_only before wide (Column i) = is_within before wide i
names_only before wide (Literal v) = true
names_only before wide (Negate e) = names_only before wide e
names_only before wide (Plus a b) = names_only before wide a && names_only before wide b
names_only before wide (Times a b) = names_only before wide a && names_only before wide b
names_only before wide (Extract part e) = names_only before wide e

-- whether a condition names no column but these
abbrev pub tests_only : ℕ → ℕ → Cond → Bool
tests_only before wide (Compare c a b) = names_only before wide a && names_only before wide b
tests_only before wide (IsNull e) = names_only before wide e
tests_only before wide (Between e a b) = names_only before wide e && (names_only before wide a && names_only before wide b)
tests_only before wide (In e es) = names_only before wide e && list_all (names_only before wide) es
tests_only before wide (Like e pattern) = names_only before wide e
tests_only before wide (Not c) = tests_only before wide c
tests_only before wide (And a b) = tests_only before wide a && tests_only before wide b
tests_only before wide (Or a b) = tests_only before wide a && tests_only before wide b

-- a part of a condition: the whole, or a part of what AND joins
pub data IsPart : Cond → Cond → Type 0 where
  whole : (c : Cond) → IsPart c c
  before_and : (part a b : Cond) → IsPart part a → IsPart part (And a b)
  behind_and : (part a b : Cond) → IsPart part b → IsPart part (And a b)

-- a source's row in its columns of the joined row, with NULL before it
abbrev pub in_place : ℕ → Row → Row
in_place before s = replicate before Null ++ s

-- whether a source's row passes these conditions by itself
abbrev pub passes_own : ℕ → List Cond → Row → Bool
passes_own before cs s = list_all (λ c. is_true (holds c (in_place before s))) cs

-- each names the source's columns alone, and AND joins it to the rest of WHERE
pub record AreOwn (filter : Cond) (before wide : ℕ) (cs : List Cond) : Type 0 where
  pub named : AllByRecursion (λ c. tests_only before wide c ≡ true) cs
  pub parts : AllByRecursion (λ c. IsPart c filter) cs
