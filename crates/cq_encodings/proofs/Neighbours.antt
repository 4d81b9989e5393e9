-- Runs whose neighbours have different values.
use Rattle.std.proofs.Common.{◌≡◌, ◌≢◌, ℕ, ◌<◌, List, [], ◌∷◌, ◌++◌, append_assoc, sym, subst, ap, ◌∙◌}
use Rattle.cq_values.specs.declared.value.Value.{Value}
use Rattle.cq_encodings.specs.declared.runs.Run.{Run}
use Rattle.cq_encodings.specs.Runs.{AreRuns}

-- the last run may be longer
pub last_grows : (runs : List Run) (value : Value) (n m : ℕ) → 0 < m → AreRuns (runs ++ record { value = value; count = n } ∷ []) → AreRuns (runs ++ record { value = value; count = m } ∷ [])
last_grows [] value n m some are = some
last_grows (run ∷ []) value n m some are = (are.0, (are.1.0, some))
last_grows (run ∷ next ∷ runs) value n m some are = (are.0, (are.1.0, last_grows (next ∷ runs) value n m some are.1.1))

put_behind : (runs : List Run) (run next : Run) → 0 < next.count → run.value ≢ next.value → AreRuns (runs ++ run ∷ []) → AreRuns (runs ++ run ∷ next ∷ [])
put_behind [] run next some apart are = (are, (apart, some))
put_behind (first ∷ []) run next some apart are = (are.0, (are.1.0, (are.1.1, (apart, some))))
put_behind (first ∷ second ∷ runs) run next some apart are = (are.0, (are.1.0, put_behind (second ∷ runs) run next some apart are.1.1))

-- a run of another value may follow
pub next_begins : (runs new : List Run) (run next : Run) → 0 < next.count → run.value ≢ next.value → new ≡ runs ++ run ∷ [] → AreRuns (runs ++ run ∷ []) → AreRuns (new ++ next ∷ [])
next_begins runs new run next some apart pushed are =
    subst AreRuns (sym (ap (λ (rs : List Run). rs ++ next ∷ []) pushed ∙ append_assoc runs (run ∷ []) (next ∷ []))) (put_behind runs run next some apart are)
