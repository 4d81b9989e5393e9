-- The rows of a batch.
use Rattle.std.specs.Prelude.{ℕ, List, map}
use Rattle.cq_values.specs.Value.{Row, column}
use Rattle.cq_values.specs.declared.value.Value.{Value}
use Rattle.cq_vectors.specs.declared.batch.Batch.{Batch}

-- the values of the columns at one place
abbrev pub row_at : List (List Value) → ℕ → Row
row_at columns place = map (λ values. column values place) columns

-- a row for each place that counts, in order
abbrev pub rows_of : Batch → List Row
rows_of batch = map (row_at batch.columns.items) batch.selection
