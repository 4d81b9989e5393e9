use Rattle.std.proofs.Common.{arith}
use Rattle.cq_encodings_vectors.proofs.PartsLemmas.{part-slice}
use Rattle.cq_encodings_vectors.proofs.numbers.numbers_of.Goals as goal

pub returns-clause-part : goal.returns-clause-part
returns-clause-part c = part-slice c.args.k c.args.numbers.now c.min.result (omega (arith, c.min.ensures))
