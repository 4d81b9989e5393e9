use Rattle.std.proofs.Common.{◌≡◌, ◌∙◌, ◌++◌, List, ap, ap₂, arith, length, sym}
use Rattle.cq_model_bags.proofs.Lists.{all-drop}
use Rattle.cq_segments_pieces.specs.Marked.{MarkedRow, rows_of, unmarked}
use Rattle.cq_segments_pieces.specs.Pieces.{joined}
use Rattle.cq_segments_pieces.proofs.Marks.{length-flags, length-rows_of, rows_of-unmarked, unmarked-append}
use Rattle.cq_writestore.proofs.written.Written.of_new.Goals as goal

pub invariant_of-result : goal.invariant_of-result
invariant_of-result c =
    let pieces = c.as_parts.result.0.now in
    let tail = c.as_parts.result.1.now in
    let lent = c.of.result in
    record {
      whole = all-drop (λ (list : List MarkedRow). length list ≡ 1024) 1 pieces c.as_parts.ensures.whole;
      few = omega (arith, c.as_parts.ensures.small, ap length c.of.ensures, length-flags lent.rows.now lent.marks.now, ap length (rows_of-unmarked tail), length-rows_of (unmarked tail));
    }

pub returns : goal.returns
returns c =
    let pieces = joined c.as_parts.result.0.now in
    let tail = c.as_parts.result.1.now in
    ap₂ (λ front back. front ++ back) c.as_parts.ensures.fresh c.of.ensures
    ∙ sym (unmarked-append (rows_of pieces) tail) ∙ ap unmarked c.as_parts.ensures.rows
