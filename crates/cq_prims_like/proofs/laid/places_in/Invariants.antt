use Rattle.std.proofs.Common.{◌≡◌, ◌≤◌, ◌<◌, ℕ, [], take, length, get_or}
use Rattle.std.specs.Prelude.{None}
use Rattle.std.specs.List.{concat}
use Rattle.memchr.specs.Find.{FindsNeedle}
use Rattle.cq_vectors_stored.specs.Columns.{texts_of}
use Rattle.cq_prims_like.proofs.laid.places_in.Given as goal

-- the first places in the texts so far, and the next place of the run in the bytes
abbrev pub invariant-loop-i : goal.invariant-loop-i
invariant-loop-i l = record {
  start : l.start ≡ length (concat (take l.i (texts_of l.texts)));
  next : (from : ℕ) × (from ≤ l.start) × FindsNeedle l.bytes l.run from l.next;
  long : length l.places ≡ 64;
  found : (j : ℕ) → j < l.i → FindsNeedle (get_or (texts_of l.texts) j []) l.run 0 (get_or l.places j None);
}
