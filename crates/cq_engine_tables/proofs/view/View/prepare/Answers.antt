use Rattle.std.proofs.Common.{arith}
use Rattle.cq_engine_tables.proofs.Unchanged.{same_itself}
use Rattle.cq_engine_tables.proofs.view.View.prepare.Goals as goal

pub returns-then-not-is_on-clause-same : goal.returns-then-not-is_on-clause-same
returns-then-not-is_on-clause-same c = same_itself c.args.self.now

pub returns-then-not-is_on-clause-within : goal.returns-then-not-is_on-clause-within
returns-then-not-is_on-clause-within c = record { more = omega arith; most = λ tables others same stands told. omega arith }
