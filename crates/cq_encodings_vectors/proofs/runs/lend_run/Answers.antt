use Rattle.std.proofs.Common.{arith}
use Rattle.cq_values.specs.Lent.{owned}
use Rattle.cq_encodings_vectors.proofs.PartsLemmas.{constant-part}
use Rattle.cq_encodings_vectors.proofs.runs.lend_run.Goals as goal

pub returns-in-Some : goal.returns-in-Some
returns-in-Some c = constant-part c.args.k c.min.result (owned c.in-Some.value) c.args.runs.now c.in-Some.ensures (omega (arith, c.min.ensures, c.len.ensures))
