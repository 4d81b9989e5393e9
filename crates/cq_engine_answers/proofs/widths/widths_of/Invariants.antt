use Rattle.std.proofs.Common.{◌≡◌, take}
use Rattle.cq_engine_answers.specs.Narrow.{source_widths}
use Rattle.cq_engine_tables.specs.HeldTables.{tables_of}
use Rattle.cq_engine_tables.specs.Views.{views_of}
use Rattle.cq_engine_answers.proofs.widths.widths_of.Given as goal

-- the columns of the sources so far
abbrev pub invariant-loop-source : goal.invariant-loop-source
invariant-loop-source l = l.widths.items ≡ source_widths (tables_of l.tables) (views_of l.views) (take l.source-index l.sources)
