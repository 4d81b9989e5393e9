use Rattle.std.proofs.Common.{◌≤◌, ◌∙◌, arith, length, length-set}
use Rattle.cq_vectors_masks.proofs.WalkLemmas.{room_left, walk_step, walk_end}
use Rattle.cq_vectors_masks.proofs.walk.walk_word.Goals as goal

pub bounds-to-n : goal.bounds-to-n
bounds-to-n c =
    let i = c.loop-rest.invariant in
    let long : c.args.start ≤ length c.args.to.now = omega arith in
    let within : c.loop-rest.n ≤ length c.loop-rest.to = omega (arith, i.0, i.1) in
    omega (arith, i.1, room_left c.args.base c.args.start c.args.word _ _ _ _ long within i.2 (omega arith) (omega arith))

pub loop-rest-preserved : goal.loop-rest-preserved
loop-rest-preserved c =
    let i = c.loop-rest.invariant in
    let long : c.args.start ≤ length c.args.to.now = omega arith in
    let within : c.loop-rest.n ≤ length c.loop-rest.to = omega (arith, i.0, i.1) in
    let left = room_left c.args.base c.args.start c.args.word _ _ _ _ long within i.2 (omega arith) (omega arith) in
    (omega (arith, left), length-set _ _ _ ∙ i.1, walk_step c.args.base c.args.start c.args.word _ _ _ _ long within i.2 (omega arith) (omega arith) (omega (arith, i.1, left)))

pub returns-clause-walked : goal.returns-clause-walked
returns-clause-walked c =
    let i = c.loop-rest.invariant in
    let long : c.args.start ≤ length c.args.to.now = omega arith in
    let within : c.loop-rest.n ≤ length c.loop-rest.to = omega (arith, i.0, i.1) in
    walk_end c.args.base c.args.start c.args.word _ _ _ _ long within i.2 (omega arith)
