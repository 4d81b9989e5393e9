use Rattle.std.proofs.Common.{◌≡◌, ◌+◌, drop}
use Rattle.cq_model_terms.specs.Places.{place_in}
use Rattle.cq_model_terms.proofs.naming.place_in.Given as goal

-- the column is looked for among those that are left
abbrev pub invariant-loop-column : goal.invariant-loop-column
invariant-loop-column l = (l.at ≡ l.column-index) × (l.at + place_in (drop l.column-index l.kept) l.place ≡ place_in l.kept l.place)
