use Rattle.std.proofs.Common.{◌∙◌, ap, arith, length}
use Rattle.std.proofs.lemmas.List.{length-map}
use Rattle.cq_encodings.specs.AnyEncoded.{encoded_values}
use Rattle.cq_values.specs.Lent.{owned}
use Rattle.cq_encodings_vectors.proofs.PartsLemmas.{few-part}
use Rattle.cq_encodings_vectors.proofs.values.read_part.Goals as goal

pub narrowed_copy-requires : goal.narrowed_copy-requires
narrowed_copy-requires c =
    omega (arith, length-map c.values.result.now owned, ap length (c.values.ensures ∙ c.in_ok-decoded.ensures), few-part c.args.k (encoded_values c.args.encoded.now))
