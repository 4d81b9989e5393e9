-- Views that are found under their names, and views that are made.
use Rattle.std.specs.Prelude.{◌≡◌, ℕ, List, [], ◌∷◌, ◌++◌, Option, option_map}
use Rattle.std.specs.Global.{Vec}
use Rattle.std.specs.List.{find}
use Rattle.cq_values.specs.Texts.{is_text}
use Rattle.cq_model.specs.declared.query.Query.{Query}
use Rattle.cq_values.specs.declared.column.ColumnDef.{ColumnDef}
use Rattle.cq_model_state.specs.State.{TableOf, ViewOf, view_named}
use Rattle.cq_views.specs.State.{StandsFor}
use Rattle.cq_views.specs.declared.kept_view.KeptView.{KeptView}
use Rattle.cq_sides.specs.Ticks.{counted}
use Rattle.cq_views_state.specs.Work.{work_of}
use Rattle.cq_engine_tables.specs.Views.{AreWide, NamedView, bags_in, views_of}

-- the query of the view of a name, if there is one
abbrev pub query_named : List ℕ → List ViewOf → Option Query
query_named name views = option_map (λ v. v.query) (view_named name views)

-- what is stored of the view of a name, if there is one
abbrev pub stored_named : List ℕ → List NamedView → Option NamedView
stored_named name views = find (λ v. is_text v.name name) views

-- what the view of a name has counted, if there is one
abbrev pub work_named : List ℕ → List NamedView → Option ℕ
work_named name views = option_map (λ v. counted 0 (work_of v.kept.state)) (stored_named name views)

-- a view was put behind the others
abbrev pub IsAdded : ViewOf → Vec NamedView → Vec NamedView → Type 0
IsAdded v old new = views_of new.items ≡ views_of old.items ++ v ∷ []

-- what is kept of a view that was built from its tables as they are at the epoch, and counted nothing
pub record IsBuilt (tables : List TableOf) (q : Query) (now : ℕ) (v : KeptView) : Type 0 where
  pub is_of : v.query ≡ q
  pub epoch : v.state.epoch ≡ now
  pub built : v.state.built ≡ now
  pub wide : AreWide tables v.query v.widths
  pub stands : StandsFor v (bags_in tables)
  pub uncounted : work_of v.state ≡ 0

-- behind the others stands a view with these columns that was built so
pub record IsBuiltBehind (tables : List TableOf) (columns : List ColumnDef) (q : Query) (now : ℕ) (old new : Vec NamedView) : Type 0 where
  pub view : NamedView
  pub behind : new.items ≡ old.items ++ view ∷ []
  pub columns_are : view.columns ≡ columns
  pub built : IsBuilt tables q now view.kept
