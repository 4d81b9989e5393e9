use Rattle.std.proofs.Common.{◌≡◌, ◌∷◌, [], map, take}
use Rattle.cq_operators.specs.Selected.{rows_of_all}
use Rattle.cq_table_columns.specs.Sources.{rows_or}
use Rattle.cq_engine_answers.proofs.reading.inputs_of.Given as goal

-- the rows of the first source and of those of the joins so far
abbrev pub invariant-loop-join : goal.invariant-loop-join
invariant-loop-join l = rows_of_all l.inputs.items ≡ rows_or l.lent l.query.first [] ∷ map (λ j. rows_or l.lent j.source []) (take l.join-index l.join-items)
