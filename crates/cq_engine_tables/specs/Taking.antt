-- What changes of tables do to views.
use Rattle.std.specs.Prelude.{◌≡◌, ◌+◌, ℕ, true, false, Option, Some, None, IfSome}
use Rattle.cq_model.specs.Meaning.{Tables}
use Rattle.cq_views_model.specs.Query.{reads}
use Rattle.cq_views.specs.Changes.{changes_of}
use Rattle.cq_views.specs.declared.changes.TableChange.{TableChange}
use Rattle.cq_views.specs.State.{CanCommit, CountsPairs, SameView, StandsFor, StaysStanding, TakesIn, WaitsFor}
use Rattle.cq_views_state.specs.Work.{CountsPut, work_of}
use Rattle.cq_views_state.specs.declared.state.Pending.{Pending}
use Rattle.cq_views.specs.declared.kept_view.KeptView.{KeptView}
use Rattle.cq_engine_tables.specs.Views.{NamedView}

-- nothing of a view has changed that is seen of it
pub record IsSame (old new : NamedView) : Type 0 where
  pub name : new.name ≡ old.name
  pub columns : new.columns ≡ old.columns
  pub kept : SameView old.kept new.kept

-- for a view that reads the table of a number wait changes of these tables; for another one none does
abbrev pub IsReady : ℕ → Tables → Tables → NamedView → Option Pending → Type 0
IsReady table tables changes v None = reads table v.kept.query ≡ false
IsReady table tables changes v (Some pending) = (reads table v.kept.query ≡ true) × WaitsFor tables changes v.kept pending × CanCommit v.kept pending

-- so it is whatever tables the view stood for
abbrev pub IsReadyFor : ℕ → Tables → NamedView → NamedView → Option Pending → Type 0
IsReadyFor table changes old new pending = (tables : Tables) → StandsFor old.kept tables → IsReady table tables changes new pending

-- so it is for the change of a table
abbrev pub IsReadyForChange : TableChange → NamedView → NamedView → Option Pending → Type 0
IsReadyForChange change old new pending = IsReadyFor change.table (changes_of change) old new pending

-- a view counted the pairs of the changes that wait for it, and where nothing waits, nothing
abbrev pub CountsReady : Tables → NamedView → NamedView → Option Pending → Type 0
CountsReady changes old new None = work_of new.kept.state ≡ work_of old.kept.state
CountsReady changes old new (Some pending) = CountsPairs old.kept changes new.kept pending

-- so it is for the change of a table
abbrev pub CountsForChange : TableChange → NamedView → NamedView → Option Pending → Type 0
CountsForChange change old new pending = CountsReady (changes_of change) old new pending

-- a view has room for what waits, and stays in range
abbrev pub CanTake : NamedView → Option Pending → Type 0
CanTake v pending = IfSome pending (λ p. CanCommit v.kept p)

-- what a view stands for goes on with what waited, where something did
abbrev pub GoesOn : Option Pending → KeptView → KeptView → Type 0
GoesOn None old new = StaysStanding old new
GoesOn (Some pending) old new = TakesIn old pending new

-- a view counted the entries of what waited, where something did
abbrev pub CountsTaken : Option Pending → KeptView → KeptView → Type 0
CountsTaken None old new = work_of new.state ≡ work_of old.state
CountsTaken (Some pending) old new = CountsPut old.state pending new.state

-- a view was led one epoch on: it is the view that it was, whatever it stands for
pub record IsLed (old new : NamedView) : Type 0 where
  pub name : new.name ≡ old.name
  pub columns : new.columns ≡ old.columns
  pub query : new.kept.query ≡ old.kept.query
  pub widths : new.kept.widths ≡ old.kept.widths
  pub built : new.kept.state.built ≡ old.kept.state.built
  pub epoch : new.kept.state.epoch ≡ old.kept.state.epoch + 1

-- a view has taken in what waited, and is one epoch further
pub record HasTaken (old : NamedView) (pending : Option Pending) (new : NamedView) : Type 0 where
  pub led : IsLed old new
  pub goes : GoesOn pending old.kept new.kept
  pub counts : CountsTaken pending old.kept new.kept
