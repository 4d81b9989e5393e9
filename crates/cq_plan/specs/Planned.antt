-- What of WHERE is asked of the rows of each source, and what of the joined rows.
use Rattle.std.specs.Prelude.{◌==◌, ◌≡◌, ◌&&◌, ℕ, ◌+◌, Bool, false, not, List, [], ◌∷◌, Option, Some, None, if◌then◌else◌, length, map, filter}
use Rattle.std.specs.List.{AllByRecursion}
use Rattle.cq_values.specs.Value.{Row}
use Rattle.cq_model.specs.Exact.{AreExactIn}
use Rattle.cq_model.specs.Expr.{Cond}
use Rattle.cq_model.specs.Own.{in_place, passes_own}
use Rattle.cq_model.specs.declared.query.Join.{Join}
use Rattle.cq_model.specs.declared.query.Query.{Query}
use Rattle.cq_plan.specs.Chain.{ChainedSource, HaveValues, chain_list}
use Rattle.cq_plan.specs.EachOwn.{each_is_of_one}
use Rattle.cq_plan.specs.Own.{AreOwnOf, AskAllOwnOf, conditions_of}
use Rattle.cq_plan.specs.declared.plans.PlannedSource.{PlannedSource}

-- the condition whose own parts are asked below the joins: WHERE, or nothing
abbrev pub asked_below : Bool → Option Cond → Option Cond
asked_below below where_is = if below then where_is else None

-- the condition that is asked of the joined rows: WHERE, or nothing
abbrev pub asked_behind : Bool → Option Cond → Option Cond
asked_behind asks where_is = if asks then where_is else None

-- a source stands behind so many columns, and is asked all parts of a condition that are its own
pub record IsPlanned (condition : Option Cond) (before : ℕ) (source : PlannedSource) : Type 0 where
  pub place : source.before ≡ before
  pub own : AreOwnOf condition before source.wide (conditions_of source.own.items)
  pub all : AskAllOwnOf condition before source.wide (conditions_of source.own.items)

-- so it is with each of these sources
abbrev pub AreAllOwn : Option Cond → ℕ → List PlannedSource → Type 0
AreAllOwn condition before [] = Unit {0}
AreAllOwn condition before (s ∷ ss) = IsPlanned condition before s × AreAllOwn condition (before + s.wide) ss

-- whether WHERE is asked of the joined rows: there is one, and it is asked below no joins or some part is no source's own
abbrev pub is_asked_behind : Option Cond → Bool → List PlannedSource → Bool
is_asked_behind None below sources = false
is_asked_behind (Some c) below sources = not (below && each_is_of_one sources c)

-- the columns of each source
abbrev pub widths_of : List PlannedSource → List ℕ
widths_of sources = map (λ s. s.wide) sources

-- whether sources are joined
abbrev pub is_joined : Query → Bool
is_joined q = not (length q.joins == 0)

-- what is asked below the joins: WHERE, and nothing where no source is joined
abbrev pub below_of : Query → Option Cond
below_of q = asked_below (is_joined q) q.filter

-- there is a source for each name in FROM, each is asked all parts of WHERE that are its own before it is joined, and WHERE
-- is asked behind the joins where some part is left
pub record AsksWhere (q : Query) (sources : List PlannedSource) (asks_behind : Bool) : Type 0 where
  pub count : length sources ≡ length q.joins + 1
  pub own : AreAllOwn (below_of q) 0 sources
  pub behind : asks_behind ≡ is_asked_behind q.filter (is_joined q) sources

-- ---- Rows
-- the rows of a source that pass what is asked of them
abbrev pub passing_of : PlannedSource → List Row → List Row
passing_of s rows = filter (passes_own s.before (conditions_of s.own.items)) rows

-- each source that is joined, with its ON and those of its rows that pass
abbrev pub passing_links : List Join → List PlannedSource → List (List Row) → List ChainedSource
passing_links (j ∷ js) (s ∷ ss) (rows ∷ others) = (j.on, passing_of s rows) ∷ passing_links js ss others
passing_links js ss others = []

-- the rows that pass, joined in the order of FROM
abbrev pub joined_by : List Join → List PlannedSource → List (List Row) → List Row
joined_by js (s ∷ ss) (rows ∷ others) = chain_list (passing_of s rows) (passing_links js ss others)
joined_by js ss sources = []

-- each row of a source has a value for each of its columns
abbrev pub HaveColumns : List PlannedSource → List (List Row) → Type 0
HaveColumns [] [] = Unit {0}
HaveColumns (s ∷ ss) (rows ∷ others) = HaveValues s.wide rows × HaveColumns ss others
HaveColumns ss sources = ⊥

-- what is asked of the rows of each source can be worked out on them
abbrev pub CanAskEach : List PlannedSource → List (List Row) → Type 0
CanAskEach [] [] = Unit {0}
CanAskEach (s ∷ ss) (rows ∷ others) =
    AllByRecursion (λ row. AllByRecursion (λ c. AreExactIn c (in_place s.before row)) (conditions_of s.own.items)) rows × CanAskEach ss others
CanAskEach ss sources = ⊥
