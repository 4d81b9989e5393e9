-- Views under their names, and tables that they stand for.
use Rattle.std.specs.Prelude.{◌≡◌, ◌≤◌, ◌==◌, ℕ, if◌then◌else◌, List, [], ◌∷◌, length, map, Option, Some, None}
use Rattle.std.specs.List.{AllByRecursion, AllZip}
use Rattle.cq_model_bags.specs.Bag.{once_each}
use Rattle.cq_values.specs.declared.column.ColumnDef.{ColumnDef}
use Rattle.cq_values.specs.Value.{Row}
use Rattle.cq_model.specs.Sizes.{column_sizes}
use Rattle.cq_model_laws.specs.Sizes.{HasSizes}
use Rattle.cq_views.specs.State.{StandsFor}
use Rattle.cq_views.specs.declared.kept_view.KeptView.{KeptView}
use Rattle.cq_model.specs.declared.query.Query.{Query}
use Rattle.cq_model.specs.declared.query.Source.{Source}
use Rattle.cq_model.specs.declared.query.Source.TheVariants.{Table, View}
use Rattle.cq_model.specs.Meaning.{Tables}
use Rattle.cq_model.specs.Views.{sources_of, tables_alone}
use Rattle.cq_model_state.specs.State.{State, TableOf, ViewOf, rows_in, tables_at}
use Rattle.cq_model_step_laws.specs.Sound.{IsInTime}
use Rattle.cq_views_model.specs.Query.{CanBeKept}

-- a view under its name, with its columns
pub record NamedView : Type 0 where
  pub name : List ℕ
  pub columns : List ColumnDef
  pub kept : KeptView

-- the view that it is
abbrev pub view_of : NamedView → ViewOf
view_of v = record { name = v.name; columns = v.columns; query = v.kept.query; epoch = v.kept.state.epoch; built = v.kept.state.built }

-- the views that they are
abbrev pub views_of : List NamedView → List ViewOf
views_of views = map view_of views

-- the numbers of rows are within the sizes of the view's columns
abbrev pub AreSized : NamedView → List Row → Type 0
AreSized v rows = AllByRecursion (HasSizes (column_sizes v.kept.query)) rows

-- ---- Views that stand
-- the bags of tables, by their numbers
abbrev pub bags_in : List TableOf → Tables
bags_in tables = tables_alone (λ n. once_each (rows_in tables n))

-- a query over at most four tables that can be kept
pub record Fits (q : Query) : Type 0 where
  pub can : CanBeKept q
  pub few : length (sources_of q) ≤ 4

-- how many columns the table of a number has, where it is there
abbrev pub width_at : List TableOf → ℕ → Option ℕ
width_at [] n = None
width_at (t ∷ tables) n = if t.number == n then Some (length t.columns) else width_at tables n

-- the source is a table that is there, with so many columns
abbrev pub IsWide : List TableOf → Source → ℕ → Type 0
IsWide tables (Table n) wide = width_at tables n ≡ Some wide
IsWide tables (View place) wide = ⊥

-- so it is with each source of a query
abbrev pub AreWide : List TableOf → Query → List ℕ → Type 0
AreWide tables q widths = AllZip (IsWide tables) (sources_of q) widths

-- the view can be kept, knows how wide its tables are, and stands for them as they are at present
pub record IsPresent (tables : List TableOf) (v : NamedView) : Type 0 where
  pub fits : Fits v.kept.query
  pub wide : AreWide tables v.kept.query v.kept.widths
  pub stands : StandsFor v.kept (bags_in tables)

-- the view has a column for each item, can be kept, knows how wide its tables are, and stands at an epoch that can be
-- told, for the tables as they were then
pub record IsRight (s : State) (v : NamedView) : Type 0 where
  pub shown : length v.columns ≡ length v.kept.query.items
  pub fits : Fits v.kept.query
  pub wide : AreWide s.tables v.kept.query v.kept.widths
  pub time : IsInTime s.passed s.now (view_of v)
  pub stands : StandsFor v.kept (tables_alone (tables_at s v.kept.state.epoch))

-- so it is with each view
abbrev pub AreRight : State → List NamedView → Type 0
AreRight s views = AllByRecursion (IsRight s) views
