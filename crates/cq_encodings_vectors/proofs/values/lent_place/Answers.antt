use Rattle.std.proofs.Common.{◌∙◌, arith, sym}
use Rattle.cq_encodings.specs.AnyEncoded.{encoded_values}
use Rattle.cq_values.specs.declared.value.Value.TheVariants.{Null}
use Rattle.cq_encodings_vectors.proofs.PartsLemmas.{part-at, within-part}
use Rattle.cq_encodings_vectors.proofs.values.lent_place.Goals as goal

pub overflow_add-k : goal.overflow_add-k
overflow_add-k c = record { fits = omega (arith, c.len-len.ensures, within-part c.args.k (encoded_values c.args.encoded.now) c.args.place c.requires.there) }

pub returns : goal.returns
returns c = c.value_at.ensures ∙ sym (part-at c.args.k (encoded_values c.args.encoded.now) c.args.place Null c.requires.there)
