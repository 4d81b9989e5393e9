use Rattle.std.proofs.Common.{drop, take, ◌≡◌}
use Rattle.cq_encodings_plain.specs.Parts.{nulls_of}
use Rattle.cq_encodings_plain.proofs.nulls.plane_of.Given as goal

-- the flags so far
abbrev pub invariant-loop-i : goal.invariant-loop-i
invariant-loop-i l = l.plane ≡ nulls_of (take l.i (drop l.start l.values))
