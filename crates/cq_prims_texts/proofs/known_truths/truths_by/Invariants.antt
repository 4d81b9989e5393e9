use Rattle.std.proofs.Common.{◌≡◌, ◌≤◌, ◌+◌, ◌-◌, length, take}
use Rattle.std.specs.Vec.{vec_capacity, vec_len}
use Rattle.cq_prims_texts.specs.Named.{truths_of_texts}
use Rattle.cq_prims_texts.proofs.known_truths.truths_by.Given as goal

-- the truths so far are those of the texts so far, and there is room for the rest
abbrev pub invariant-loop-at : goal.invariant-loop-at
invariant-loop-at g l = record {
  are : l.truths.items ≡ truths_of_texts (g.T.EntryTest.truth l.test) (take l.at l.texts);
  room : vec_len l.truths + (length l.texts - l.at) ≤ vec_capacity l.truths;
}
