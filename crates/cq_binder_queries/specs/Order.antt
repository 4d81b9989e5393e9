-- ORDER BY with its names resolved.
use Rattle.std.specs.Prelude.{ℕ, List, [], ◌∷◌, Result}
use Rattle.cq_sql_language.specs.declared.statement.OutputColumn.{OutputColumn}
use Rattle.cq_binder_rules.specs.declared.fault.Fault.{Fault}
use Rattle.cq_binder_rules.specs.Orders.{output_check, output_place}
use Rattle.cq_binder_queries.specs.Walk.{WalksTo}

-- a column of the result is looked up among these names, and where it stands
abbrev pub FindsOutput : List (List ℕ) → OutputColumn → Result ℕ Fault → Type 0
FindsOutput names column result = WalksTo (output_check names column ∷ []) (output_place names column) result
