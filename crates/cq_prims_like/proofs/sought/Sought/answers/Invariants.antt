use Rattle.std.proofs.Common.{◌≡◌, ◌≤◌, ℕ, take, length}
use Rattle.std.specs.List.{concat}
use Rattle.memchr.specs.Find.{FindsNeedle}
use Rattle.cq_vectors_stored.specs.LentColumns.{part_of}
use Rattle.cq_prims_like.proofs.RunLemmas.{answers_so_far}
use Rattle.cq_prims_like.proofs.sought.Sought.answers.Given as goal

-- the answers for the texts so far, and the next place of the run in the bytes from the text on or from one before
abbrev pub invariant-loop-i : goal.invariant-loop-i
invariant-loop-i l = record {
  word : l.word ≡ answers_so_far l.self.pattern l.texts l.start l.i;
  next : (from : ℕ) × (from ≤ length (concat (take l.i (part_of l.texts l.start 64)))) × FindsNeedle l.bytes l.self.run from l.next;
}
