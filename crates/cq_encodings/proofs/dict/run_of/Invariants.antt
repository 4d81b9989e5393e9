use Rattle.std.proofs.Common.{take, ◌≡◌}
use Rattle.cq_vectors_stored.specs.Columns.{texts_of}
use Rattle.cq_encodings.proofs.dict.run_of.Given as goal

abbrev pub invariant-loop-text : goal.invariant-loop-text
invariant-loop-text l = l.run ≡ texts_of (take l.text-index l.texts)
