-- Rows of one source that pass a condition, with NULL in the columns of the sources before it.
use Rattle.std.specs.Prelude.{◌≡◌, ℕ, Bool, List, map}
use Rattle.std.specs.List.{filter}
use Rattle.cq_encodings_vectors.specs.Places.{rows_at}
use Rattle.cq_values.specs.Truth.{is_true}
use Rattle.cq_values.specs.Value.{Row}
use Rattle.cq_values.specs.declared.truth.Truth.{Truth}
use Rattle.cq_model.specs.Own.{in_place}
use Rattle.cq_model.specs.Condition.{holds}
use Rattle.cq_model.specs.Exact.{AreExactIn}
use Rattle.cq_model.specs.Expr.{Cond}
use Rattle.cq_model.specs.Trees.{cond_of}
use Rattle.cq_model.specs.declared.expr.CondTree.{CondTree}

-- no number of the condition on the way is too wide in a row
abbrev pub IsExactBehind : ℕ → Cond → Row → Type 0
IsExactBehind before c row = AreExactIn c (in_place before row)

-- whether a row passes the condition of a tree
abbrev pub passes_one : ℕ → CondTree → Row → Bool
passes_one before tree row = is_true (holds (cond_of tree) (in_place before row))

-- the rows that do
abbrev pub passing_one : ℕ → CondTree → List Row → List Row
passing_one before tree rows = filter (passes_one before tree) rows

-- at these places stand the rows that pass it
abbrev pub ArePassing : ℕ → CondTree → List Row → List ℕ → Type 0
ArePassing before tree rows places = rows_at rows places ≡ passing_one before tree rows

-- these are its truths in rows
abbrev pub AreTruthsBehind : ℕ → CondTree → List Row → List Truth → Type 0
AreTruthsBehind before tree rows truths = truths ≡ map (λ row. holds (cond_of tree) (in_place before row)) rows
