use Rattle.std.proofs.Common.{◌≡◌, drop}
use Rattle.cq_views_columns.specs.Narrow.{columns_at}
use Rattle.cq_views_columns.proofs.columns.columns_at.Given as goal

-- the source is looked for among the entries that are left
abbrev pub invariant-loop-entry : goal.invariant-loop-entry
invariant-loop-entry l = columns_at (drop l.entry-index l.sources) l.source ≡ columns_at l.sources l.source
