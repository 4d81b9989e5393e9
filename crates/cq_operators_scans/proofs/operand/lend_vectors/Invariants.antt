use Rattle.std.proofs.Common.{◌≡◌, ◌≤◌, ◌+◌, ◌-◌, length, map, take}
use Rattle.std.specs.Vec.{vec_capacity, vec_len}
use Rattle.cq_operators_scans.specs.Operand.{values_in}
use Rattle.cq_operators_scans.proofs.operand.lend_vectors.Given as goal

-- the values so far are lent, and there is room for the rest
abbrev pub invariant-loop-operand : goal.invariant-loop-operand
invariant-loop-operand l = record {
  lent : map (λ vector. vector.now) l.lent.items ≡ map values_in (take l.operand-index l.operands);
  room : vec_len l.lent + (length l.operands - l.operand-index) ≤ vec_capacity l.lent;
}
