-- What views count for changes that they take in (docs/ARCHITECTURE.md, Epochs).
use Rattle.std.specs.Prelude.{◌≡◌, ◌⊎◌, ◌+◌, ◌-◌, ◌<◌, ◌≤◌, ◌^◌, ℕ, zero, suc, List, [], ◌∷◌, min, take}
use Rattle.std.specs.List.{AllZip}
use Rattle.cq_model.specs.Meaning.{Tables, meaning}
use Rattle.cq_model.specs.Views.{tables_alone}
use Rattle.cq_model.specs.declared.query.Query.{Query}
use Rattle.cq_model_bags.specs.Bag.{SameBag}
use Rattle.cq_model_state.specs.State.{State, ViewOf, above, change_of, tables_at}
use Rattle.cq_views_model.specs.Delta.{changed, joins_work}
use Rattle.cq_views_state.specs.Work.{work_of}
use Rattle.cq_engine_tables.specs.Views.{AreRight, IsRight, NamedView, view_of}
use Rattle.cq_engine_queue.specs.History.{IsHistory, IsQueueOf}
use Rattle.cq_engine_queue.specs.Queued.{Queued}

-- for changes of tables a count rises by at most the work of the query's joins, and by at least one where its bag changes,
-- until the count is at its end
pub record CountsFor (q : Query) (tables changes : Tables) (before after : ℕ) : Type 0 where
  pub more : before ≤ after
  pub most : after ≤ before + joins_work q tables changes
  pub rises : (SameBag (meaning q (changed tables changes)) (meaning q tables) → ⊥) → min (before + 1) (2 ^ 128 - 1) ≤ after

-- the tables at an epoch
abbrev pub bags_at : State → ℕ → Tables
bags_at s epoch = tables_alone (tables_at s epoch)

-- and what the write behind it changed
abbrev pub changes_at : State → ℕ → Tables
changes_at s epoch = tables_alone (change_of (take 1 (above s epoch)))

-- so it is with so many changes, one after the other, from an epoch on
abbrev pub CountsChanges : Query → State → ℕ → ℕ → ℕ → ℕ → Type 0
CountsChanges q s epoch zero before after = after ≡ before
CountsChanges q s epoch (suc n) before after =
    (between : ℕ) × CountsFor q (bags_at s epoch) (changes_at s epoch) before between × CountsChanges q s (epoch + 1) n between after

-- a view counted so for the changes from its epoch to another one
abbrev pub CountsTo : State → NamedView → ℕ → ℕ → Type 0
CountsTo s v epoch after = CountsChanges v.kept.query s v.kept.state.epoch (epoch - v.kept.state.epoch) (work_of v.kept.state) after

-- a view was taken on, and counted for the changes that it took in
pub record HasCounted (s : State) (old new : NamedView) : Type 0 where
  pub counts : CountsTo s old new.kept.state.epoch (work_of new.kept.state)
  pub ahead : old.kept.state.epoch ≤ new.kept.state.epoch

-- or also some of the work of the next change, before the epoch to which it was to go
pub record HasBegun (s : State) (to : ℕ) (old new : NamedView) : Type 0 where
  pub between : ℕ
  pub counts : CountsTo s old new.kept.state.epoch between
  pub ahead : old.kept.state.epoch ≤ new.kept.state.epoch
  pub next : new.kept.state.epoch < to
  pub more : between ≤ work_of new.kept.state
  pub most : work_of new.kept.state
      ≤ between + joins_work old.kept.query (bags_at s new.kept.state.epoch) (changes_at s new.kept.state.epoch)

abbrev pub MayHaveBegun : State → ℕ → NamedView → NamedView → Type 0
MayHaveBegun s to old new = HasCounted s old new ⊎ HasBegun s to old new

-- all views were taken on, or stayed, and counted so
abbrev pub HaveCounted : State → List NamedView → List NamedView → Type 0
HaveCounted s old new = AllZip (HasCounted s) old new

-- those from a place on, each on its way to its own epoch, counted so or have begun
abbrev pub MayBegin : (ℕ → ViewOf → ℕ) → State → ℕ → List NamedView → List NamedView → Type 0
MayBegin to s place [] [] = Unit {0}
MayBegin to s place (v ∷ vs) (w ∷ ws) = MayHaveBegun s (to place (view_of v)) v w × MayBegin to s (place + 1) vs ws
MayBegin to s place vs ws = ⊥

-- so it is in whatever state with this queue where a view was right
abbrev pub CountsIn : Queued → NamedView → NamedView → Type 0
CountsIn q old new = (s : State) → IsQueueOf s q → IsHistory s → IsRight s old → HasCounted s old new

abbrev pub MayBeginIn : Queued → ℕ → NamedView → NamedView → Type 0
MayBeginIn q to old new = (s : State) → IsQueueOf s q → IsHistory s → IsRight s old → MayHaveBegun s to old new

-- and all views were
abbrev pub AllCount : Queued → List NamedView → List NamedView → Type 0
AllCount q old new = (s : State) → IsQueueOf s q → IsHistory s → AreRight s old → HaveCounted s old new

abbrev pub AllMayBegin : (ℕ → ViewOf → ℕ) → Queued → List NamedView → List NamedView → Type 0
AllMayBegin to q old new = (s : State) → IsQueueOf s q → IsHistory s → AreRight s old → MayBegin to s 0 old new
