use Rattle.std.proofs.Common.{◌≡◌, ◌<◌, get_or, length, rules}
use Rattle.cq_table_positions.proofs.AllPlaces.{own-next}
use Rattle.cq_table_positions.proofs.places.are_all.Goals as goal

pub loop-place-preserved : goal.loop-place-preserved
loop-place-preserved c =
    let more : c.loop-place.place < length c.args.places.now = search rules in
    let is : get_or c.args.places.now c.loop-place.place 0 ≡ c.loop-place.place = search rules in
    own-next c.args.places.now c.loop-place.place more is c.loop-place.invariant
