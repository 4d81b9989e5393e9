use Rattle.std.proofs.Common.{◌≡◌, arith, length, sym}
use Rattle.cq_vectors_stored.specs.LentColumns.{part_of}
use Rattle.cq_vectors_stored.proofs.LentLemmas.{keeps_part, length-part_of}
use Rattle.cq_vectors_stored.proofs.run_texts.RunTexts.new.Goals as goal

pub invariant_of-result : goal.invariant_of-result
invariant_of-result c =
    let flags = c.args.nulls.now in
    let texts = part_of c.args.texts.now c.args.start (length flags) in
    let long : length texts ≡ length flags = length-part_of c.args.texts.now c.args.start (length flags) c.requires.there in (
      keeps_part texts flags (sym long) (omega (arith, long, c.len-flags.ensures.len, c.len-flags.ensures.few)) c.requires.clear,
      record { there = c.requires.there; few = omega (arith, c.len-texts.ensures.len, c.len-texts.ensures.few) },
    )
