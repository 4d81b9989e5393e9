-- The rows that are gathered to build a view from.
use Rattle.std.specs.Prelude.{◌≡◌, Bool, true, List, [], ◌∷◌, ◌++◌}
use Rattle.std.specs.List.{AllByRecursion, list_any}
use Rattle.std.specs.Global.{Vec}
use Rattle.cq_model_bags.specs.Bag.{SameBag}
use Rattle.cq_model.specs.Sources.{same_source}
use Rattle.cq_table_columns.specs.declared.stored_source.StoredSource.{StoredSource}
use Rattle.cq_model.specs.Views.{sources_of}
use Rattle.cq_model.specs.declared.query.Query.{Query}
use Rattle.cq_model.specs.declared.query.Source.{Source}
use Rattle.cq_model_state.specs.State.{TableOf}
use Rattle.cq_engine_tables.specs.HeldTables.{HeldTable, tables_of}
use Rattle.cq_engine_tables.specs.Views.{bags_in}
use Rattle.cq_views.specs.Filling.{bags_at}

-- whether a source has an entry
abbrev pub is_gathered : List StoredSource → Source → Bool
is_gathered gathered source = list_any (λ entry. same_source entry.source source) gathered

-- each source that has an entry has the bag of its table, and each of these sources has one
pub record AreGathered (tables : List TableOf) (sources : List Source) (gathered : List StoredSource) : Type 0 where
  pub bags : (s : Source) → is_gathered gathered s ≡ true → SameBag (bags_at gathered s) (bags_in tables s)
  pub all : AllByRecursion (λ s. is_gathered gathered s ≡ true) sources

-- whatever sources had entries, one source more has
abbrev pub GathersAlso : List TableOf → Source → List StoredSource → List StoredSource → Type 0
GathersAlso tables source old new =
    (sources : List Source) → AreGathered tables sources old → AreGathered tables (sources ++ source ∷ []) new

-- the sources of a query have entries with the bags of their tables
abbrev pub AreGatheredFor : List HeldTable → Query → List StoredSource → Type 0
AreGatheredFor tables q gathered = AreGathered (tables_of tables) (sources_of q) gathered

-- one source more of tables that are held has an entry
abbrev pub PutsSource : List HeldTable → Source → Vec StoredSource → Vec StoredSource → Type 0
PutsSource tables source old new = GathersAlso (tables_of tables) source old.items new.items
