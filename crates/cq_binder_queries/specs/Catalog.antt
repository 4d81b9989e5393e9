-- The tables and views that statements find under their names.
use Rattle.std.specs.Prelude.{◌≡◌, ℕ, Bool, List, [], Option, is_some, option_map, unwrap_or}
use Rattle.cq_model.specs.declared.query.Source.TheVariants.{Table, View}
use Rattle.cq_model.specs.Sizes.{stored_sizes}
use Rattle.cq_values.specs.declared.column.ColumnDef.{ColumnDef}
use Rattle.cq_binder_rules.specs.Scopes.{Named, from_view}
use Rattle.cq_model_state.specs.State.{TableOf, ViewOf, State, table_named, view_named, view_place}
use Rattle.cq_binder_queries.specs.declared.catalog.TableEntry.{TableEntry}
use Rattle.cq_binder_queries.specs.declared.catalog.ViewEntry.{ViewEntry}

-- a state of which nothing but the tables and views is asked
abbrev pub alone : List TableOf → List ViewOf → State
alone tables views = record { tables = tables; views = views; now = 0; drawn = 0; passed = 0; queue = []; max_rows = 0 }

-- the state that a catalog shows: its tables and its views
abbrev pub state_of : {C : Type 0} → (C → List TableOf) → (C → List ViewOf) → C → State
state_of tables views catalog = alone (tables catalog) (views catalog)

-- a table but for its rows and its order
pub record Heading : Type 0 where
  pub number : ℕ
  pub name : List ℕ
  pub columns : List ColumnDef

abbrev pub heading : TableOf → Heading
heading t = record { number = t.number; name = t.name; columns = t.columns }

abbrev pub shown_heading : TableEntry → Heading
shown_heading e = record { number = e.number; name = e.name.now; columns = e.columns.now }

-- an entry tells of this table
abbrev pub Describes : TableEntry → TableOf → Type 0
Describes e t = shown_heading e ≡ heading t

-- the table of a name was found, or there is none
abbrev pub IsTableNamed : List ℕ → List TableOf → Option TableEntry → Type 0
IsTableNamed name tables found = option_map shown_heading found ≡ option_map heading (table_named name tables)

-- a view as FROM names it
abbrev pub shown_view : ViewEntry → Named
shown_view e = record {
  known = e.name.now;
  columns = e.columns.now;
  sizes = e.sizes.items;
  source = View e.place;
  bases = e.bases;
}

-- a table as FROM names it
abbrev pub shown_table : TableEntry → Named
shown_table e = record {
  known = e.name.now;
  columns = e.columns.now;
  sizes = stored_sizes e.columns.now;
  source = Table e.number;
  bases = 1;
}

-- whether a view has the name
abbrev pub names_view : List ℕ → List ViewOf → Bool
names_view name views = is_some (view_named name views)

-- the view of a name as FROM names it, if there is one
abbrev pub view_source_named : List ℕ → List ViewOf → Option Named
view_source_named name views = option_map (λ v. from_view v (unwrap_or (view_place name views) 0)) (view_named name views)

-- the view of a name was found, or there is none
abbrev pub IsViewNamed : List ℕ → List ViewOf → Option ViewEntry → Type 0
IsViewNamed name views found = option_map shown_view found ≡ view_source_named name views
