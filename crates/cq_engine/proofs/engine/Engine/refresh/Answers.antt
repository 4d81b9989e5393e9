use Rattle.std.proofs.Common.{inl}
use Rattle.cq_engine.proofs.Counted.{counted-all}
use Rattle.cq_engine.proofs.engine.Engine.refresh.Goals as goal

pub returns-in_default-clause-counts : goal.returns-in_default-clause-counts
returns-in_default-clause-counts c = inl (counted-all c.args.self.now.state c.args.self.now.stored)
