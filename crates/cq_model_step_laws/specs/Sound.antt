-- When a state is sound: its numbers, its epochs and its bags go together (docs/ARCHITECTURE.md, Epochs).
use Rattle.std.specs.Prelude.{◌≡◌, ℕ, ◌+◌, ◌≤◌, ◌<◌, length}
use Rattle.std.specs.List.{AllByRecursion}
use Rattle.cq_model_bags.specs.Bag.{IsBag}
use Rattle.cq_binder_rules.specs.declared.bound.Bound.{Bound}
use Rattle.cq_binder_rules.specs.declared.bound.Bound.TheVariants as commands
use Rattle.cq_model_state.specs.State.{ViewOf, State, AreNumbered, IsThere, tables_at}

-- the table that a command changes is there
abbrev pub Fits : State → Bound → Type 0
Fits s (commands.DropTable n) = IsThere n s.tables
Fits s (commands.Insert n rows) = IsThere n s.tables
Fits s (commands.Delete n c) = IsThere n s.tables
Fits s (commands.Update n assignments c) = IsThere n s.tables
Fits s (commands.Move n rows) = IsThere n s.tables
Fits s (commands.Merge n) = IsThere n s.tables
Fits s command = Unit {0}

-- a view stands at its building or later, between the first and the last epoch that can be told
pub record IsInTime (first last : ℕ) (v : ViewOf) : Type 0 where
  pub built : v.built ≤ v.epoch
  pub kept : first ≤ v.epoch
  pub reached : v.epoch ≤ last

-- numbers and epochs are in order, the queue is whole, and no table has a negative row at an epoch that can be told
pub record IsSound (s : State) : Type 0 where
  pub numbered : AreNumbered s.tables s.drawn
  pub whole : s.passed + length s.queue ≡ s.now
  pub drawn : s.now ≤ s.drawn
  pub known : AllByRecursion (λ c. c.table < s.drawn) s.queue
  pub epochs : AllByRecursion (IsInTime s.passed s.now) s.views
  pub bags : (epoch n : ℕ) → s.passed ≤ epoch → epoch ≤ s.now → IsThere n s.tables → IsBag (tables_at s epoch n)
