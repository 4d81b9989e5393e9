use Rattle.std.proofs.Common.{◌≡◌, ◌<◌, ℕ, false}
use Rattle.cq_prims_texts.specs.Named.{is_unknown, truth_named}
use Rattle.cq_prims_texts.proofs.named.has_unknown.Given as goal

-- none of the entries so far is Unknown
abbrev pub invariant-loop-entry : goal.invariant-loop-entry
invariant-loop-entry l = (i : ℕ) → i < l.entry-index → is_unknown (truth_named l.entries i) ≡ false
