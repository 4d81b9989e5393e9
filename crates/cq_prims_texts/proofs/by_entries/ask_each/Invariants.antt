use Rattle.std.proofs.Common.{◌≡◌, length, take}
use Rattle.cq_prims_texts.specs.Named.{truths_of_texts}
use Rattle.cq_prims_texts.proofs.by_entries.ask_each.Given as goal

-- the truths so far are those of the entries so far, and there is room for 1,024
abbrev pub invariant-loop-entry : goal.invariant-loop-entry
invariant-loop-entry g l = (take l.entry l.to ≡ truths_of_texts (g.T.EntryTest.truth l.test) (take l.entry l.entries)) × (length l.to ≡ 1024)
