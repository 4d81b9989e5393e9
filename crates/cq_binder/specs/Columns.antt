-- CREATE TABLE, and the columns behind SORT BY.
use Rattle.std.specs.Prelude.{ℕ, List, [], map, Result}
use Rattle.cq_values.specs.declared.column.ColumnDef.{ColumnDef}
use Rattle.cq_binder_rules.specs.declared.fault.Fault.{Fault}
use Rattle.cq_binder_rules.specs.Scopes.{place_in}
use Rattle.cq_binder_rules.specs.Refusal.{create_checks, sort_checks}
use Rattle.cq_model_state.specs.State.{State}
use Rattle.cq_binder_queries.specs.Walk.{WalksTo}

-- where the columns of these names stand
abbrev pub sort_places : List ColumnDef → List (List ℕ) → List ℕ
sort_places columns names = map (place_in columns) names

-- the columns behind SORT BY are looked up, and where they stand
abbrev pub FindsSort : List ColumnDef → List (List ℕ) → Result (List ℕ) Fault → Type 0
FindsSort columns names result = WalksTo (sort_checks columns [] names) (sort_places columns names) result

-- the walk through a CREATE TABLE gives where the columns behind SORT BY stand
abbrev pub WalksCreate : State → List ℕ → List ColumnDef → List (List ℕ) → Result (List ℕ) Fault → Type 0
WalksCreate s name columns sort result = WalksTo (create_checks name columns sort s) (sort_places columns sort) result
