use Rattle.std.proofs.Common.{◌∙◌, ◌-◌, ◌<◌, [], ap, arith, length}
use Rattle.std.proofs.lemmas.List.{get_or_default}
use Rattle.cq_writestore.proofs.SpotLists.{behind-all, in-behind}
use Rattle.cq_writestore.proofs.spot.spot_of.Goals as goal

pub returns-then-behind-last : goal.returns-then-behind-last
returns-then-behind-last c =
    let pieces = c.args.pieces.now in
    let some : 0 < length pieces = omega (arith, c.if-count-eq0.false) in
    let first = ap length (c.index-pieces-0.is ∙ get_or_default pieces 0 c.index-pieces-0.result [] some) in
    in-behind pieces c.args.place (c.args.place - c.len-first.result) c.requires some (omega (arith, first, c.len-first.ensures.len, c.if-place-first.false)) (omega (arith, c.if-behind-last.true))

pub returns-else-behind-last : goal.returns-else-behind-last
returns-else-behind-last c =
    let pieces = c.args.pieces.now in
    let some : 0 < length pieces = omega (arith, c.if-count-eq0.false) in
    let first = ap length (c.index-pieces-0.is ∙ get_or_default pieces 0 c.index-pieces-0.result [] some) in
    behind-all pieces c.args.place (c.args.place - c.len-first.result) c.requires some (omega (arith, first, c.len-first.ensures.len, c.if-place-first.false)) (omega (arith, c.if-behind-last.false))
