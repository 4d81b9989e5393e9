use Rattle.std.proofs.Common.{◌≡◌, drop}
use Rattle.cq_views.specs.Cut.{entry_of}
use Rattle.cq_views.proofs.cutting.entry_of.Given as goal

-- the source is looked for among the entries that are left
abbrev pub invariant-loop-entry : goal.invariant-loop-entry
invariant-loop-entry l = entry_of (drop l.entry-index l.columns) l.source ≡ entry_of l.columns l.source
