use Rattle.std.proofs.Common.{ap, arith, length}
use Rattle.cq_vectors_stored.proofs.TextRunLemmas.{ends_long}
use Rattle.cq_vectors_stored.proofs.text_run.TextRun.len.Goals as goal

pub returns-clause-len : goal.returns-clause-len
returns-clause-len c = omega (arith, c.len.ensures, ends_long c.self.invariant, ap length c.self.view_is)

pub returns-clause-few : goal.returns-clause-few
returns-clause-few c = omega (arith, c.len.ensures, ends_long c.self.invariant, c.self.invariant.few)
