use Rattle.std.proofs.Common.{◌≡◌, map, pos, rules, arith, take, FitsSigned}
use Rattle.std.specs.Int.{w128}
use Rattle.std.proofs.lemmas.Int.{to_z-of_z}
use Rattle.cq_deltas.specs.declared.kept.Kept.TheVariants.{Counted}
use Rattle.cq_deltas.specs.Kept.{all_kept_with, seen}
use Rattle.cq_deltas.proofs.Turns.{holds_at, keep-more, room-at, turn, turns_done}
use Rattle.cq_deltas.proofs.group.add_all.Goals as goal

pub add-requires-clause-room : goal.add-requires-clause-room
add-requires-clause-room c =
    room-at c.args.addends.now c.loop-place.kept c.loop-place.place c.index-addends-place.result c.index-kept-place.result c.index-addends-place.is (omega arith) (omega arith)
    (c.loop-place.invariant.kept c.args.addends.now c.requires.room)

pub add-requires-clause-holds : goal.add-requires-clause-holds
add-requires-clause-holds c =
    let fits : FitsSigned w128 c.args.weight = c.ranges.weight in
    let so_far : map seen c.loop-place.kept ≡ all_kept_with c.args.weight (take c.loop-place.place c.args.addends.now) (map seen c.args.kept.now) = search rules in
    rw (to_z-of_z w128 c.args.weight fits)
    (holds_at c.args.weight c.args.addends.now c.loop-place.kept c.args.kept.now c.loop-place.place c.index-kept-place.result so_far c.index-addends-place.result c.index-addends-place.is (omega arith) (omega arith)
    (search rules))

pub loop-place-preserved : goal.loop-place-preserved
loop-place-preserved c =
    let fits : FitsSigned w128 c.args.weight = c.ranges.weight in
    let so_far : map seen c.loop-place.kept ≡ all_kept_with c.args.weight (take c.loop-place.place c.args.addends.now) (map seen c.args.kept.now) = search rules in
    record {
      seen =
          rw (to_z-of_z w128 c.args.weight fits)
          (turn c.args.weight c.args.addends.now c.loop-place.kept c.args.kept.now c.loop-place.place c.index-kept-place.result so_far c.index-addends-place.result c.add.new.self c.index-addends-place.is (omega arith)
          (omega arith) (search rules));
      kept = keep-more c.args.kept.now c.loop-place.kept c.loop-place.place c.add.new.self c.index-kept-place.result (omega arith) c.loop-place.invariant.kept c.add.ensures.kept;
    }

pub returns-clause-seen : goal.returns-clause-seen
returns-clause-seen c =
    turns_done c.args.weight c.args.addends.now c.loop-place.kept c.args.kept.now c.loop-place.place (Counted (pos 0)) (search rules) (omega arith)
