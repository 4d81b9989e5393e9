-- What the engine stands for: tables and views under their names, how much was written, and the changes that views may
-- still have to take in (ISO 9075-2, 11.3 and 11.32; docs/ARCHITECTURE.md, Epochs).
use Rattle.std.specs.Prelude.{ℕ, ◌-◌, ◌<◌, ◌==◌, Bool, true, ◌||◌, ◌≡◌, if◌then◌else◌, List, [], ◌∷◌, ◌++◌, map, filter, drop, Option, is_some, position, slice_get}
use Rattle.std.specs.List.{AllByRecursion, find, flat_map, list_any}
use Rattle.cq_values.specs.Texts.{is_text}
use Rattle.cq_values.specs.Value.{Row}
use Rattle.cq_model_bags.specs.Bag.{Weighted, once_each, negative}
use Rattle.cq_model_bags.specs.Canonical.{bag_of}
use Rattle.cq_model.specs.declared.query.Query.{Query}
use Rattle.cq_values.specs.declared.column.ColumnDef.{ColumnDef}

-- a table: the number that it drew, the columns that its segments are sorted by, and the one list that stands for its bag
pub record TableOf : Type 0 where
  pub number : ℕ
  pub name : List ℕ
  pub columns : List ColumnDef
  pub sort : List ℕ
  pub rows : List Row

-- a view: its query, the epoch that it stands at, and the one that it was built at
pub record ViewOf : Type 0 where
  pub name : List ℕ
  pub columns : List ColumnDef
  pub query : Query
  pub epoch : ℕ
  pub built : ℕ

-- what one accepted write did to the table of a number
pub record ChangeOf : Type 0 where
  pub table : ℕ
  pub rows : Weighted

-- now counts the accepted writes, and drawn the CREATE TABLE statements too; the queue has the changes of the writes
-- numbered above passed, up to now
pub record State : Type 0 where
  pub tables : List TableOf
  pub views : List ViewOf
  pub now : ℕ
  pub drawn : ℕ
  pub passed : ℕ
  pub queue : List ChangeOf
  pub max_rows : ℕ

-- the table of a name, if there is one
abbrev pub table_named : List ℕ → List TableOf → Option TableOf
table_named name tables = find (λ t. is_text t.name name) tables

-- where the view of a name stands, if there is one
abbrev pub view_place : List ℕ → List ViewOf → Option ℕ
view_place name views = position (λ v. is_text v.name name) views

-- the view of a name, if there is one
abbrev pub view_named : List ℕ → List ViewOf → Option ViewOf
view_named name views = find (λ v. is_text v.name name) views

-- tables and views share their names
abbrev pub is_taken : List ℕ → State → Bool
is_taken name s = is_some (table_named name s.tables) || is_some (view_named name s.views)

-- the rows of the table of a number
abbrev pub rows_in : List TableOf → ℕ → List Row
rows_in [] n = []
rows_in (t ∷ ts) n = if t.number == n then t.rows else rows_in ts n

-- and its columns
abbrev pub columns_in : List TableOf → ℕ → List ColumnDef
columns_in [] n = []
columns_in (t ∷ ts) n = if t.number == n then t.columns else columns_in ts n

-- a new table
abbrev pub empty_table : ℕ → List ℕ → List ColumnDef → List ℕ → TableOf
empty_table number name columns sort = record { number = number; name = name; columns = columns; sort = sort; rows = [] }

-- the table with these rows in place of its own
abbrev pub holding : List Row → TableOf → TableOf
holding rows t = record { number = t.number; name = t.name; columns = t.columns; sort = t.sort; rows = bag_of rows }

-- the tables with these rows in the one of a number
abbrev pub with_rows : ℕ → List Row → List TableOf → List TableOf
with_rows n rows tables = map (λ t. if t.number == n then holding rows t else t) tables

-- numbers rise in the order of creation, all of them below the next that is drawn
abbrev pub AreNumbered : List TableOf → ℕ → Type 0
AreNumbered [] next = Unit {0}
AreNumbered (t ∷ ts) next = (t.number < next) × AllByRecursion (λ u. t.number < u.number) ts × AreNumbered ts next

-- there is a table of this number
abbrev pub IsThere : ℕ → List TableOf → Type 0
IsThere n tables = list_any (λ t. t.number == n) tables ≡ true

-- the bags of the tables, by their numbers
abbrev pub tables_now : State → ℕ → Weighted
tables_now s n = once_each (rows_in s.tables n)

-- the queries of the views, by their places
abbrev pub queries_of : State → ℕ → Option Query
queries_of s place = slice_get (map (λ v. v.query) s.views) place

-- what changes did to the table of a number
abbrev pub change_of : List ChangeOf → ℕ → Weighted
change_of cs n = flat_map (λ c. c.rows) (filter (λ c. c.table == n) cs)

-- the changes of the writes above an epoch, from passed on
abbrev pub above : State → ℕ → List ChangeOf
above s epoch = drop (epoch - s.passed) s.queue

-- the bags of the tables at an epoch, from passed on: the present ones, with their changes above it taken back
abbrev pub tables_at : State → ℕ → ℕ → Weighted
tables_at s epoch n = tables_now s n ++ negative (change_of (above s epoch) n)

-- nothing is there, and nothing was written
abbrev pub first_state : ℕ → State
first_state max_rows = record { tables = []; views = []; now = 0; drawn = 0; passed = 0; queue = []; max_rows = max_rows }
