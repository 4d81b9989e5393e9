use Rattle.std.proofs.Common.{◌≡◌, [], drop}
use Rattle.cq_test_plain.specs.SourceRows.{rows_or}
use Rattle.cq_test_plain.proofs.source_rows.rows_of.Given as goal

-- the source is looked for among the entries that are left
abbrev pub invariant-loop-lent : goal.invariant-loop-lent
invariant-loop-lent l = rows_or (drop l.lent-index l.sources) l.source [] ≡ rows_or l.sources l.source []
