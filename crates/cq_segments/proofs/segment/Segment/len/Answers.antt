use Rattle.std.proofs.Common.{◌≡◌, ◌∙◌, ◌-◌, [], ap, arith, length}
use Rattle.std.proofs.lemmas.List.{get_or_default}
use Rattle.cq_segments.proofs.SegmentRows.{last_piece}
use Rattle.cq_segments.proofs.segment.Segment.len.Goals as goal

pub overflow_mul-result : goal.overflow_mul-result
overflow_mul-result c =
    let pieces = c.self.inside.pieces in
    let n = c.len-last.result in
    let count : n ≡ length pieces.items = omega (arith, c.len-last.ensures, pieces.ok) in
    let last = last_piece pieces.items n c.self.invariant.full count c.self.invariant.some in
    omega (arith, last.1, c.self.invariant.few)

pub overflow_add-result : goal.overflow_add-result
overflow_add-result c =
    let pieces = c.self.inside.pieces in
    let n = c.len-last.result in
    let piece = c.index.result.now in
    let count : n ≡ length pieces.items = omega (arith, c.len-last.ensures, pieces.ok) in
    let last = last_piece pieces.items n c.self.invariant.full count c.self.invariant.some in
    let read = c.index.ensures ∙ get_or_default pieces.items (n - 1) piece [] (omega (arith, count, last.0)) in
    omega (arith, last.1, c.self.invariant.few, c.len.ensures.len, ap length read)

pub returns-clause-len : goal.returns-clause-len
returns-clause-len c =
    let pieces = c.self.inside.pieces in
    let n = c.len-last.result in
    let piece = c.index.result.now in
    let count : n ≡ length pieces.items = omega (arith, c.len-last.ensures, pieces.ok) in
    let last = last_piece pieces.items n c.self.invariant.full count c.self.invariant.some in
    let read = c.index.ensures ∙ get_or_default pieces.items (n - 1) piece [] (omega (arith, count, last.0)) in
    omega (arith, last.1, c.len.ensures.len, ap length read, ap length c.self.view_is)

pub returns-clause-few : goal.returns-clause-few
returns-clause-few c =
    let pieces = c.self.inside.pieces in
    let n = c.len-last.result in
    let piece = c.index.result.now in
    let count : n ≡ length pieces.items = omega (arith, c.len-last.ensures, pieces.ok) in
    let last = last_piece pieces.items n c.self.invariant.full count c.self.invariant.some in
    let read = c.index.ensures ∙ get_or_default pieces.items (n - 1) piece [] (omega (arith, count, last.0)) in
    omega (arith, last.1, c.self.invariant.few, c.len.ensures.len, ap length read)
