use Rattle.std.proofs.Common.{◌≡◌, [], drop}
use Rattle.cq_table_columns.specs.Sources.{rows_or}
use Rattle.cq_table_columns.proofs.stored_source.rows_of.Given as goal

-- the source is looked for among the entries that are left
abbrev pub invariant-loop-stored : goal.invariant-loop-stored
invariant-loop-stored l = rows_or (drop l.stored-index l.sources) l.source [] ≡ rows_or l.sources l.source []
