-- Rows of one source that pass conditions of their own, with NULL in the columns of the sources before it.
use Rattle.std.specs.Prelude.{◌≡◌, ℕ, List, map}
use Rattle.std.specs.Borrow.{Bor}
use Rattle.std.specs.List.{AllByRecursion, filter}
use Rattle.cq_encodings_vectors.specs.Places.{rows_at}
use Rattle.cq_segments_pieces.specs.Marked.{MarkedRow, live, rows_of}
use Rattle.cq_table_positions.specs.Rows.{rows_in}
use Rattle.cq_table_positions.specs.declared.stored_rows.StoredRows.{StoredRows}
use Rattle.cq_values.specs.Value.{Row}
use Rattle.cq_model.specs.Own.{in_place, passes_own}
use Rattle.cq_model.specs.Exact.{AreExactIn}
use Rattle.cq_model.specs.Expr.{Cond}
use Rattle.cq_model.specs.Trees.{cond_of}
use Rattle.cq_model.specs.declared.expr.CondTree.{CondTree}

-- the conditions of trees that are lent
abbrev pub conditions_in : List (Bor CondTree) → List Cond
conditions_in trees = map (λ tree. cond_of tree.now) trees

-- no number of these on the way is too wide in a row
abbrev pub CanPass : ℕ → List Cond → Row → Type 0
CanPass before conditions row = AllByRecursion (λ c. AreExactIn c (in_place before row)) conditions

-- the rows that pass them all
abbrev pub passing_rows : ℕ → List (Bor CondTree) → List Row → List Row
passing_rows before conditions rows = filter (passes_own before (conditions_in conditions)) rows

-- nor in any of these rows
abbrev pub CanAllPass : ℕ → List (Bor CondTree) → List Row → Type 0
CanAllPass before conditions rows = AllByRecursion (CanPass before (conditions_in conditions)) rows

-- these are the rows that pass them all
abbrev pub ArePassed : ℕ → List (Bor CondTree) → List Row → StoredRows → Type 0
ArePassed before conditions rows passed = rows_in passed ≡ passing_rows before conditions rows

-- at these places of stored rows stand those without a mark that pass them all
abbrev pub ArePassedAt : ℕ → List (Bor CondTree) → List MarkedRow → List ℕ → Type 0
ArePassedAt before conditions stored places = rows_at (rows_of stored) places ≡ passing_rows before conditions (live stored)
