use Rattle.std.proofs.Common.{◌∙◌, ap, arith, drop, length, length-append, subst, sym}
use Rattle.cq_segments_pieces.specs.Marked.{marked_count}
use Rattle.cq_segments_pieces.specs.Pieces.{joined}
use Rattle.cq_segments_pieces.proofs.PieceLists.{joined-append}
use Rattle.cq_writestore_rows.specs.NewRows.{AreWhole}
use Rattle.cq_writestore.proofs.SpotLists.{whole-append, whole-length}
use Rattle.cq_writestore.proofs.piece_store.PieceStore.append.Goals as goal

pub overflow_mul-more : goal.overflow_mul-more
overflow_mul-more c = omega (arith, whole-length c.args.made.items c.requires.whole, c.requires.small, c.len-more.ensures, c.args.made.ok)

pub overflow_add-self : goal.overflow_add-self
overflow_add-self c =
    omega (arith, whole-length c.args.made.items c.requires.whole, c.requires.small, c.len-more.ensures, c.args.made.ok, c.self.invariant.rows, ap length c.self.view_is)

pub marks_in-self-inside-requires : goal.marks_in-self-inside-requires
marks_in-self-inside-requires c =
    let pieces = c.self.inside.pieces.items in
    let made = c.args.made.items in
    let all = ap joined (c.as_slice.ensures.value ∙ c.in_ok-append.ensures.items) ∙ joined-append pieces made in
    omega (arith, ap length all, length-append (joined pieces) (joined made), ap length c.self.view_is, c.requires.small)

pub invariant_of-self-2 : goal.invariant_of-self-2
invariant_of-self-2 c =
    let pieces = c.self.inside.pieces.items in
    let made = c.args.made.items in
    let items = c.in_ok-append.ensures.items in
    let all = ap joined items ∙ joined-append pieces made in
    record {
      whole = subst (λ l. AreWhole (drop 1 l)) (sym items) (whole-append pieces made c.self.invariant.whole c.requires.whole);
      rows = omega (arith, c.self.invariant.rows, ap length all, length-append (joined pieces) (joined made), whole-length made c.requires.whole, c.len-more.ensures, c.args.made.ok);
      marks = c.marks_in-self-inside.ensures ∙ ap (λ l. marked_count (joined l)) c.as_slice.ensures.value;
    }
