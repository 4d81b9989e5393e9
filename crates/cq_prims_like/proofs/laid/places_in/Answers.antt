use Rattle.std.proofs.Common.{◌<◌, ◌∙◌, arith, length, length-set, ℕ, Option, [], get_or}
use Rattle.memchr.specs.Find.{FindsNeedle}
use Rattle.cq_vectors_stored.specs.Columns.{texts_of}
use Rattle.cq_prims_like.proofs.PlaceLemmas.{found_more, lent_found, lent_start, lent_within, room_of_found}
use Rattle.cq_prims_like.proofs.laid.places_in.Goals as goal

pub overflow_add-end : goal.overflow_add-end
overflow_add-end c =
    let within = lent_within c.args.texts.now c.loop-i.i (omega (arith, c.loop-i-test.true, c.requires.many)) c.args.bytes.now c.loop-i.start c.requires.laid c.loop-i.invariant.start in
    record { fits = omega (arith, within, c.requires.few) }

pub next_from-next-requires-clause-within : goal.next_from-next-requires-clause-within
next_from-next-requires-clause-within c =
    let within = lent_within c.args.texts.now c.loop-i.i (omega (arith, c.loop-i-test.true, c.requires.many)) c.args.bytes.now c.loop-i.start c.requires.laid c.loop-i.invariant.start in
    omega (arith, within)

pub place_within-requires : goal.place_within-requires
place_within-requires c = room_of_found c.args.run.now c.args.bytes.now c.loop-i.start c.next_from-next.result c.requires.few c.next_from-next.ensures

pub loop-i-preserved : goal.loop-i-preserved
loop-i-preserved c =
    let i = c.loop-i.i in
    let start = c.loop-i.start in
    let known = c.loop-i.invariant in
    let inside : i < length c.args.texts.now = omega (arith, c.loop-i-test.true, c.requires.many) in
    let here = lent_found c.args.texts.now i inside c.args.bytes.now start c.requires.laid known.start c.args.run.now c.next_from-next.result c.place_within.result c.place_within.ensures c.next_from-next.ensures in
    let found = λ (j : ℕ) (p : Option ℕ). FindsNeedle (get_or (texts_of c.args.texts.now) j []) c.args.run.now 0 p in
    record {
      start = lent_start c.args.texts.now i inside c.args.bytes.now start c.requires.laid known.start;
      next = (start, omega arith, c.next_from-next.ensures);
      long = length-set c.loop-i.places i c.place_within.result ∙ known.long;
      found = found_more found c.loop-i.places i c.place_within.result (omega (arith, c.loop-i-test.true, known.long)) known.found here;
    }
