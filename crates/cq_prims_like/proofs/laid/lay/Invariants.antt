use Rattle.std.proofs.Common.{◌≡◌, ◌≤◌, take}
use Rattle.std.specs.List.{concat}
use Rattle.cq_vectors_stored.specs.Columns.{texts_of}
use Rattle.cq_prims_like.proofs.laid.lay.Given as goal

-- the room begins with the texts so far
abbrev pub invariant-loop-text : goal.invariant-loop-text
invariant-loop-text l = (l.len ≤ 4096) × (take l.len l.room ≡ concat (take l.text-index (texts_of l.texts)))
