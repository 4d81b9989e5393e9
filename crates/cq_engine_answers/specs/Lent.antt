-- Rows of several sources that are lent, and what can be worked out on them.
use Rattle.std.specs.Prelude.{◌≡◌, ℕ, List, [], length, map}
use Rattle.std.specs.List.{AllByRecursion, flat_map}
use Rattle.cq_table_columns.specs.declared.stored.Stored.{Stored}
use Rattle.cq_model_laws.specs.Sizes.{HasSizes}
use Rattle.cq_table_columns.specs.Sources.{rows_or}
use Rattle.cq_table_columns.specs.declared.stored_source.StoredSource.{StoredSource}
use Rattle.cq_model.specs.declared.query.Query.{Query}
use Rattle.cq_model.specs.declared.query.Source.{Source}
use Rattle.cq_model.specs.Views.{sources_of}
use Rattle.cq_operators.specs.Selected.{rows_of_all}
use Rattle.cq_engine_answers.specs.Narrow.{IsConditionSized, IsShapeSized}

-- these are the rows of each source that FROM names, in its order
abbrev pub AreInputs : List StoredSource → Query → List Stored → Type 0
AreInputs lents q inputs = rows_of_all inputs ≡ map (λ s. rows_or lents s []) (sources_of q)

-- each row of a source has the sizes of its columns
abbrev pub HaveSizes : (Source → List ℕ) → List StoredSource → Source → Type 0
HaveSizes sizes lents s = AllByRecursion (HasSizes (sizes s)) (rows_or lents s [])

-- the columns of each source, so many, have sizes with which a query can be worked out on lent rows
pub record CanAnswer (lents : List StoredSource) (q : Query) (widths : List ℕ) : Type 0 where
  pub sizes : Source → List ℕ
  pub wide : widths ≡ map (λ s. length (sizes s)) (sources_of q)
  pub rows : AllByRecursion (HaveSizes sizes lents) (sources_of q)
  pub filter : IsConditionSized (flat_map sizes (sources_of q)) q.filter
  pub shown : IsShapeSized (flat_map sizes (sources_of q)) q.shape q.items
