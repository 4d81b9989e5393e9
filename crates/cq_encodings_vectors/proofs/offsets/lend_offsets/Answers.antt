use Rattle.std.proofs.Common.{◌∙◌, ap, arith, length, sym}
use Rattle.cq_encodings_plain.specs.PackedNumbers.{numbers_in}
use Rattle.cq_encodings_vectors.specs.Parts.{items_of}
use Rattle.cq_encodings_vectors.proofs.PartsLemmas.{part-slice}
use Rattle.cq_encodings_vectors.proofs.offsets.lend_offsets.Goals as goal

pub returns-in-One : goal.returns-in-One
returns-in-One c =
    let is = c.deref.ensures.value ∙ sym (ap numbers_in c.in-One.is) ∙ c.widths.ensures in
    part-slice c.args.k c.deref.result.now c.min.result (omega (arith, c.min.ensures, c.len-len.ensures, ap length is)) ∙ ap (items_of c.args.k) is

pub returns-in-Two : goal.returns-in-Two
returns-in-Two c =
    let is = c.deref-in-Two.ensures.value ∙ sym (ap numbers_in c.in-Two.is) ∙ c.widths.ensures in
    part-slice c.args.k c.deref-in-Two.result.now c.min.result (omega (arith, c.min.ensures, c.len-len.ensures, ap length is)) ∙ ap (items_of c.args.k) is

pub returns-in-Four : goal.returns-in-Four
returns-in-Four c =
    let is = c.deref-in-Four.ensures.value ∙ sym (ap numbers_in c.in-Four.is) ∙ c.widths.ensures in
    part-slice c.args.k c.deref-in-Four.result.now c.min.result (omega (arith, c.min.ensures, c.len-len.ensures, ap length is)) ∙ ap (items_of c.args.k) is
