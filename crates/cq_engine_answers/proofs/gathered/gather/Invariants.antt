use Rattle.std.proofs.Common.{take}
use Rattle.cq_engine_answers.specs.Gathered.{AreGathered}
use Rattle.cq_engine_answers.proofs.gathered.gather.Given as goal

-- the sources so far were gathered
abbrev pub invariant-loop-source : goal.invariant-loop-source
invariant-loop-source l = AreGathered l.views (take l.source-index l.sources) l.gathered.items
