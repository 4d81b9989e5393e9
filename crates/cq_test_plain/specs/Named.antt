-- Which views a query names.
use Rattle.std.specs.Prelude.{◌≡◌, ℕ, Bool, true, false, nat_eq, Vec}
use Rattle.std.specs.Global.{Global}
use Rattle.std.specs.List.{list_any}
use Rattle.cq_values.specs.Value.{Row}
use Rattle.cq_model.specs.declared.query.Query.{Query}
use Rattle.cq_model.specs.declared.query.Source.{Source}
use Rattle.cq_model.specs.declared.query.Source.TheVariants.{Table, View}
use Rattle.cq_model.specs.Meaning.{MeaningInRange, Tables, meaning}
use Rattle.cq_model.specs.Views.{sources_of}
use Rattle.cq_test_plain.specs.Rows.{MakeUp}

-- whether a source is this view
abbrev pub is_view : ℕ → Source → Bool
is_view v (Table t) = false
is_view v (View w) = nat_eq v w

-- FROM names this view
abbrev pub IsNamed : Query → ℕ → Type 0
IsNamed q v = list_any (is_view v) (sources_of q) ≡ true

-- where FROM names the view, the rows are those of its query
abbrev pub MakeUpNamed : Query → ℕ → Query → Tables → Vec Row Global → Type 0
MakeUpNamed q at view tables rows = IsNamed q at → MakeUp (meaning view tables) rows

-- and its totals can be shown
abbrev pub IsNamedInRange : Query → ℕ → Query → Tables → Type 0
IsNamedInRange q at view tables = IsNamed q at → MeaningInRange view tables
