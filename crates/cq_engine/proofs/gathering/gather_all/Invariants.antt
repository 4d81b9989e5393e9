use Rattle.std.proofs.Common.{take}
use Rattle.cq_engine.specs.Gathering.{AreGathered}
use Rattle.cq_engine_tables.specs.HeldTables.{tables_of}
use Rattle.cq_engine.proofs.gathering.gather_all.Given as goal

-- the sources so far have entries
abbrev pub invariant-loop-source : goal.invariant-loop-source
invariant-loop-source l = AreGathered (tables_of l.tables) (take l.source-index l.sources) l.gathered.items
