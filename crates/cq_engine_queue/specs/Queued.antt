-- Changes that wait for views (docs/ARCHITECTURE.md, Epochs).
use Rattle.std.specs.Prelude.{◌≡◌, ◌+◌, ◌++◌, ◌≤◌, ℕ, List, [], ◌∷◌, Option, Some, None, drop, length}
use Rattle.std.specs.Global.{Vec}
use Rattle.std.specs.List.{AllByRecursion}
use Rattle.cq_model_state.specs.State.{ChangeOf}
use Rattle.cq_segments_pieces.specs.Rows.{stored_rows}
use Rattle.cq_segments_pieces.specs.declared.stored_row.StoredRow.{StoredRow}
use Rattle.cq_views.specs.Changes.{exchanged}
use Rattle.cq_engine_tables.specs.Views.{NamedView}

-- the changes of the writes numbered above passed, and for how many more there is room
pub record Queued : Type 0 where
  pub passed : ℕ
  pub changes : List ChangeOf
  pub room : ℕ

-- the same changes of the same writes
pub record IsSameQueue (old new : Queued) : Type 0 where
  pub passed : new.passed ≡ old.passed
  pub changes : new.changes ≡ old.changes

-- these rows leave, and these come
abbrev pub AreExchanged : ChangeOf → Vec StoredRow × Vec StoredRow → Type 0
AreExchanged change rows = change.rows ≡ exchanged (stored_rows rows.0.items) (stored_rows rows.1.items)

-- of changes of the writes numbered above passed, the queue has all but those at the front that each view has passed
pub record IsTrimmed (views : List NamedView) (before : ℕ) (all : List ChangeOf) (new : Queued) : Type 0 where
  pub count : ℕ
  pub there : count ≤ length all
  pub behind : AllByRecursion (λ v. before + count ≤ v.kept.state.epoch) views
  pub most : (n : ℕ) → n ≤ length all → AllByRecursion (λ v. before + n ≤ v.kept.state.epoch) views → n ≤ count
  pub passed : new.passed ≡ before + count
  pub changes : new.changes ≡ drop count all

-- each view is at an epoch of the queue
abbrev pub AreWithin : Queued → List NamedView → Type 0
AreWithin q views = AllByRecursion (λ v. (q.passed ≤ v.kept.state.epoch) × (v.kept.state.epoch ≤ q.passed + length q.changes)) views

-- a write's change was put behind the others of the queue; without views none is told, and none is kept
abbrev pub Notes : List NamedView → Option ChangeOf → Queued → Queued → Type 0
Notes views (Some change) old new = IsTrimmed views old.passed (old.changes ++ change ∷ []) new
Notes views None old new = (new.passed ≡ old.passed + length old.changes + 1) × (new.changes ≡ [])
