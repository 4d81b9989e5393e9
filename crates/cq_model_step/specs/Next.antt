-- How commands lead from a state to the next (ISO 9075-2, 11.3, 14.9, 14.11 and 14.14; docs/ARCHITECTURE.md, Epochs).
use Rattle.std.specs.Prelude.{◌≡◌, ℕ, ◌+◌, ◌≤◌, ◌==◌, min, if◌then◌else◌, List, [], ◌∷◌, ◌++◌, length, drop}
use Rattle.std.specs.List.{AllByRecursion}
use Rattle.cq_values.specs.Value.{Row}
use Rattle.cq_model_bags.specs.Bag.{Weighted, SameBag, once_each, difference}
use Rattle.cq_binder_rules.specs.declared.bound.Bound.{Bound}
use Rattle.cq_binder_rules.specs.declared.bound.Bound.TheVariants as commands
use Rattle.cq_model.specs.declared.query.Query.{Query}
use Rattle.cq_values.specs.declared.column.ColumnDef.{ColumnDef}
use Rattle.cq_model_state.specs.State.{TableOf, ViewOf, State, empty_table, with_rows, tables_now}
use Rattle.cq_model_step.specs.Named.{is_named}

-- the state with these tables in place of its own
abbrev pub with_tables : List TableOf → State → State
with_tables tables s = record s { tables = tables }

-- the state with these views in place of its own
abbrev pub with_all_views : List ViewOf → State → State
with_all_views views s = record s { views = views }

-- CREATE TABLE: an empty table under the number that is drawn
abbrev pub created : List ℕ → List ColumnDef → List ℕ → State → State
created name columns sort s = record s { tables = s.tables ++ empty_table s.drawn name columns sort ∷ []; drawn = s.drawn + 1 }

-- CREATE VIEW: a view that is built at the present
abbrev pub new_view : List ℕ → List ColumnDef → Query → ℕ → ViewOf
new_view name columns q now = record { name = name; columns = columns; query = q; epoch = now; built = now }

-- the state after a write that left these rows in the table of a number, with its change
abbrev pub written : ℕ → List Row → Weighted → State → State
written n rows change s = record s {
  tables = with_rows n rows s.tables;
  now = s.now + 1;
  drawn = s.drawn + 1;
  queue = s.queue ++ record { table = n; rows = change } ∷ [];
}

-- an accepted write leaves these rows, and puts the new bag minus the old one behind the queue
pub record Writes (old : State) (n : ℕ) (rows : List Row) (new : State) : Type 0 where
  pub change : Weighted
  pub is_difference : SameBag change (difference (once_each rows) (tables_now old n))
  pub state : new ≡ written n rows change old

-- the epoch to which a command takes the view at a place
abbrev pub reach : State → Bound → ℕ → ViewOf → ℕ
reach s (commands.Select header q order) place v = if is_named s.views q place then s.now else v.epoch
reach s (commands.Refresh view changes) place v = if view == place then min (v.epoch + changes) s.now else v.epoch
reach s command place v = v.epoch

-- the view at an epoch
abbrev pub at_epoch : ℕ → ViewOf → ViewOf
at_epoch epoch v = record v { epoch = epoch }

-- the views from a place on, each at the epoch that it reaches
abbrev pub taken_on : (ℕ → ViewOf → ℕ) → ℕ → List ViewOf → List ViewOf
taken_on to place [] = []
taken_on to place (v ∷ vs) = at_epoch (to place v) v ∷ taken_on to (place + 1) vs

-- the state with each view at the epoch to which the command takes it
abbrev pub refreshed : Bound → State → State
refreshed command s = with_all_views (taken_on (reach s command) 0 s.views) s

-- the state with so many changes fewer at the queue's front
abbrev pub without_front : ℕ → State → State
without_front count s = record s { passed = s.passed + count; queue = drop count s.queue }

-- changes that each view has passed may be dropped from the queue's front
pub record Trims (whole new : State) : Type 0 where
  pub count : ℕ
  pub there : count ≤ length whole.queue
  pub passed : AllByRecursion (λ v. whole.passed + count ≤ v.epoch) whole.views
  pub state : new ≡ without_front count whole
