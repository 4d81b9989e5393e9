use Rattle.std.proofs.Common.{take}
use Rattle.cq_engine_answers.specs.Gathered.{AreLent}
use Rattle.cq_engine_tables.specs.HeldTables.{tables_of}
use Rattle.cq_engine_answers.proofs.gathered.lend_all.Given as goal

-- what was gathered so far is lent
abbrev pub invariant-loop-one : goal.invariant-loop-one
invariant-loop-one l = AreLent (tables_of l.tables) (take l.one-index l.gathered) l.lent.items
