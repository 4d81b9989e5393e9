use Rattle.std.proofs.Common.{[], ◌∷◌, ap, arith, length, subst, sym}
use Rattle.std.proofs.lemmas.List.{length-append}
use Rattle.cq_encodings_numbers.proofs.PartEnds.{Parts, all_parts, parts_more}
use Rattle.cq_encodings_numbers.proofs.ends.ends_of_parts.Goals as goal

pub loop-part-preserved : goal.loop-part-preserved
loop-part-preserved c =
    let l = c.loop-part in
    let offsets = c.args.offsets.now in
    let nulls = c.args.nulls.now in
    let pushed = c.push_reserved.ensures.items in
    record {
      made = subst (Parts offsets nulls) (sym pushed) (parts_more offsets nulls l.ends.items c.ends_of_part.result l.part l.invariant.long l.invariant.made c.ends_of_part.ensures);
      long = omega (arith, ap length pushed, length-append l.ends.items (c.ends_of_part.result ∷ []), l.invariant.long);
      room = omega (arith, c.push_reserved.ensures.len, c.push_reserved.ensures.capacity, l.invariant.room, c.loop-part-test.true);
    }

pub returns : goal.returns
returns c =
    all_parts c.args.offsets.now c.args.nulls.now c.loop-part.ends.items
    (omega (arith, c.loop-part.invariant.long, c.loop-part-test.false, c.loop-part.auto.part-end, c.div_ceil-count.ensures, c.len.ensures))
    c.loop-part.invariant.made
