use Rattle.std.proofs.Common.{◌≡◌, map, take}
use Rattle.cq_model.specs.Group.{key_of}
use Rattle.cq_test_plain.proofs.groups.keys_of.Given as goal

-- the keys of the rows so far
abbrev pub invariant-loop-row : goal.invariant-loop-row
invariant-loop-row l = l.keys.items ≡ map (key_of l.columns) (take l.row-index l.rows)
