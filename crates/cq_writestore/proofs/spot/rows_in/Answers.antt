use Rattle.std.proofs.Common.{◌∙◌, ◌<◌, [], ap, arith, length}
use Rattle.std.proofs.lemmas.List.{get_or_default}
use Rattle.cq_writestore.proofs.SpotLists.{length-behind}
use Rattle.cq_writestore.proofs.spot.rows_in.Goals as goal

pub overflow_mul-result : goal.overflow_mul-result
overflow_mul-result c =
    let pieces = c.args.pieces.now in
    let some : 0 < length pieces = omega (arith, c.if-count-eq0.false) in
    omega (arith, length-behind pieces c.requires.whole some, c.requires.few)

pub overflow_add-result : goal.overflow_add-result
overflow_add-result c =
    let pieces = c.args.pieces.now in
    let some : 0 < length pieces = omega (arith, c.if-count-eq0.false) in
    let first = ap length (c.index-pieces-0.is ∙ get_or_default pieces 0 c.index-pieces-0.result [] some) in
    omega (arith, length-behind pieces c.requires.whole some, c.requires.few, first, c.len.ensures.len)

pub returns : goal.returns
returns c =
    let pieces = c.args.pieces.now in
    let some : 0 < length pieces = omega (arith, c.if-count-eq0.false) in
    let first = ap length (c.index-pieces-0.is ∙ get_or_default pieces 0 c.index-pieces-0.result [] some) in
    omega (arith, length-behind pieces c.requires.whole some, first, c.len.ensures.len)
