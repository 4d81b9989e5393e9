use Rattle.std.proofs.Common.{length, take, vec_capacity, vec_len, ◌++◌, ◌+◌, ◌-◌, ◌≡◌, ◌≤◌}
use Rattle.cq_vectors_stored.specs.Columns.{texts_of}
use Rattle.cq_segments.proofs.pieces_texts.lend_behind.Given as goal

-- the texts so far, and there is room for the rest
abbrev pub invariant-loop-i : goal.invariant-loop-i
invariant-loop-i l = record {
  texts : texts_of l.lent.items ≡ texts_of l.initial.lent.items ++ take l.i l.run;
  room : vec_len l.lent + (length l.run - l.i) ≤ vec_capacity l.lent;
}
