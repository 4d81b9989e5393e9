-- Changed joined rows that a view's groups take one after the other.
use Rattle.std.specs.Prelude.{◌≡◌, ◌≤◌, ◌++◌, List}
use Rattle.std.specs.Global.{Vec}
use Rattle.cq_values.specs.Value.{Row}
use Rattle.cq_model_bags.specs.Bag.{Weighted}
use Rattle.cq_deltas_joins.specs.Sources.{rows_at}
use Rattle.cq_deltas_joins.specs.Streaming.{IsFewChange}
use Rattle.cq_deltas_joins.specs.declared.chain.Chain.{Chain}
use Rattle.cq_deltas_joins.specs.declared.sources.SourceRows.{SourceRows}
use Rattle.cq_deltas.specs.Additions.{Addition, additions}
use Rattle.cq_deltas.specs.Keyed.{HasKeys, KeyedGroups, additions_at}
use Rattle.cq_deltas.specs.Placed.{Placed}
use Rattle.cq_model.specs.Sizes.{IsStored}
use Rattle.cq_model.specs.Meaning.{Tables}
use Rattle.cq_model.specs.declared.query.Query.{Query}
use Rattle.cq_deltas_joins.specs.Taking.{TakesMerged}
use Rattle.cq_views_state.specs.Counting.{CountsEach}
use Rattle.cq_views_state.specs.Last.{AreAdded, GroupsStay, kept_rows}
use Rattle.cq_views_model.specs.Query.{CanBeKept, aggregates_of, key_columns}
use Rattle.cq_views_state.specs.declared.grouping.GroupTaker.{GroupTaker}

-- what those of rows that WHERE keeps add to groups
abbrev pub kept_additions : Query → Weighted → List Addition
kept_additions query xs = additions (key_columns query) (aggregates_of query) (kept_rows query xs)

-- the groups are ready for what waits, and the row is a stored one
pub record CanTake (taker : GroupTaker) (row : Row) : Type 0 where
  pub can : CanBeKept taker.query.now
  pub stored : IsStored row
  pub keys : HasKeys taker.change taker.groups

-- behind what waited waits what the rows add, and each of them counted one
pub record Takes (old : GroupTaker) (xs : Weighted) (new : GroupTaker) : Type 0 where
  pub query : new.query.now ≡ old.query.now
  pub added : additions_at new.groups new.change ≡ additions_at old.groups old.change ++ kept_additions old.query.now xs
  pub keys : HasKeys old.change old.groups → HasKeys new.change new.groups
  pub ticks : CountsEach old.ticks xs new.ticks

-- no group is changed, and no count fell
pub record Keeps (old new : GroupTaker) : Type 0 where
  pub query : new.query.now ≡ old.query.now
  pub same : GroupsStay old.query.now old.groups new.groups
  pub more : old.ticks ≤ new.ticks

-- what rows add waits for the groups, which are ready for it
pub record AreReadied (query : Query) (groups : KeyedGroups) (more : List Placed) (xs : Weighted) : Type 0 where
  pub added : AreAdded query (kept_rows query xs) groups more
  pub keys : HasKeys more groups

-- what the changes add behind the joins waits for the groups
abbrev pub AddsChange : Query → Chain → Tables → KeyedGroups → List Placed → Type 0
AddsChange query chain changes groups more = TakesMerged (AreReadied query groups more) (IsFewChange chain changes)

-- so it is with changes that are handed in
abbrev pub AddsChangeBy : Query → Chain → Vec SourceRows → KeyedGroups → List Placed → Type 0
AddsChangeBy query chain changes groups more = AddsChange query chain (rows_at changes.items) groups more
