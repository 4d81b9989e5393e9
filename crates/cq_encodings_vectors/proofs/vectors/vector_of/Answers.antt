use Rattle.std.proofs.Common.{ap, arith, length}
use Rattle.cq_encodings.specs.AnyEncoded.{encoded_values}
use Rattle.cq_encodings_vectors.proofs.PartsLemmas.{few-part}
use Rattle.cq_encodings_vectors.proofs.vectors.vector_of.Goals as goal

pub new-requires : goal.new-requires
new-requires c = omega (arith, ap length c.in_ok-form.ensures, few-part c.args.k (encoded_values c.args.encoded.now))
