use Rattle.std.proofs.lemmas.List.FromFn.{length-map-range_with_len}
use Rattle.cq_vectors_masks.proofs.PlaneLemmas.{flags_packed, Packs-flags}
use Rattle.cq_vectors_masks.proofs.BlockLemmas.{Packs-answers}
use Rattle.cq_vectors_masks.proofs.plane.Plane.set_where.Goals as goal

pub invariant_of-self : goal.invariant_of-self
invariant_of-self g c =
    let h = g.T.PlaceTest.holds c.args.test.now in
    (c.requires.few, Packs-flags _ _ c.args.len (length-map-range_with_len h 0 c.args.len) (Packs-answers h c.args.len _ c.requires.few c.words_where.array_long c.words_where.ensures))

pub returns : goal.returns
returns g c =
    let h = g.T.PlaceTest.holds c.args.test.now in
    flags_packed _ _ c.args.len (length-map-range_with_len h 0 c.args.len) (Packs-answers h c.args.len _ c.requires.few c.words_where.array_long c.words_where.ensures)
