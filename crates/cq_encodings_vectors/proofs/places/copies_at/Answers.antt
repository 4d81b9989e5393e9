use Rattle.std.proofs.Common.{◌∙◌, ap, arith}
use Rattle.std.proofs.lemmas.List.{take_all}
use Rattle.cq_encodings_vectors.specs.Places.{items_at}
use Rattle.cq_encodings_vectors.proofs.ItemsAt.{items-more}
use Rattle.cq_encodings_vectors.proofs.places.copies_at.Goals as goal

pub loop-place-preserved : goal.loop-place-preserved
loop-place-preserved g c =
    let l = c.loop-place in
    let more = c.loop-place-test.true in
    record {
      found = λ past. items-more c.args.all.now c.args.places.now l.place-index c.from.result past c.index-all-from.result l.found.items _ c.requires more c.from.ensures c.index-all-from.is (l.invariant.found past) c.push_reserved.ensures.items;
      room = omega (arith, l.invariant.room, more, c.push_reserved.ensures.len, c.push_reserved.ensures.capacity);
    }

pub returns : goal.returns
returns g c past = c.loop-place.invariant.found past ∙ ap (λ ps. items_at c.args.all.now ps past) (take_all c.loop-place.place-index c.args.places.now c.loop-place-test.false)
