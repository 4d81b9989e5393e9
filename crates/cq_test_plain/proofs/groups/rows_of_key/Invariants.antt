use Rattle.std.proofs.Common.{◌≡◌, take, filter}
use Rattle.cq_values.specs.Order.{same_row}
use Rattle.cq_model.specs.Group.{key_of}
use Rattle.cq_test_plain.proofs.groups.rows_of_key.Given as goal

-- the rows so far that have the key
abbrev pub invariant-loop-row : goal.invariant-loop-row
invariant-loop-row l = l.own.items ≡ filter (λ r. same_row (key_of l.columns r) l.key) (take l.row-index l.rows)
