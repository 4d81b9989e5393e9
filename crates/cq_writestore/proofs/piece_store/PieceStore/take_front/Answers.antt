use Rattle.std.proofs.Common.{◌∙◌, ap, arith, drop, length}
use Rattle.std.proofs.lemmas.List.{length-drop}
use Rattle.cq_segments_pieces.specs.Marked.{marked_count}
use Rattle.cq_segments_pieces.specs.Pieces.{joined}
use Rattle.cq_writestore.proofs.piece_store.PieceStore.take_front.Goals as goal

pub marks_in-self-inside-requires : goal.marks_in-self-inside-requires
marks_in-self-inside-requires c =
    let all = joined c.self.inside.pieces.items in
    omega (arith, ap (λ l. length (joined l)) c.as_slice.ensures.value, ap length c.drop_front.ensures.rows, length-drop c.args.count all, c.self.invariant.rows, c.self.ranges)

pub invariant_of-self : goal.invariant_of-self
invariant_of-self c =
    let all = joined c.self.inside.pieces.items in
    record {
      whole = c.drop_front.ensures.whole;
      rows = omega (arith, c.saturating_sub-self-inside.ensures, ap length c.drop_front.ensures.rows, length-drop c.args.count all, c.self.invariant.rows);
      marks = c.marks_in-self-inside.ensures ∙ ap (λ l. marked_count (joined l)) c.as_slice.ensures.value;
    }

pub returns : goal.returns
returns c = c.drop_front.ensures.rows ∙ ap (drop c.args.count) c.self.view_is
