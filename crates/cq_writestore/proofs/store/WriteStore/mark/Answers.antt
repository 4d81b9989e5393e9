use Rattle.std.proofs.Common.{◌∙◌, ◌+◌, ◌-◌, ◌++◌, ℕ, ap, arith, length, sym}
use Rattle.cq_segments_pieces.specs.Marked.{with_mark}
use Rattle.cq_segments_pieces.proofs.Marks.{length-mark, mark-behind, mark-in-front}
use Rattle.cq_writestore.proofs.store.WriteStore.mark.Goals as goal

pub invariant_of-self : goal.invariant_of-self
invariant_of-self c = record {
  fits = c.self.invariant.fits;
  small = omega (arith, c.self.invariant.small, ap length c.mark.ensures, length-mark c.self.inside.pieces c.args.place);
}

pub invariant_of-self-else-place-held : goal.invariant_of-self-else-place-held
invariant_of-self-else-place-held c =
    let marked = c.mark-else-place-held.ensures in
    record {
      fits = omega (arith, c.self.invariant.fits, marked.room);
      small = omega (arith, c.self.invariant.small, ap length marked.rows, length-mark c.self.inside.tail.rows (c.args.place - c.len-held.result));
    }

pub returns-then-place-held-clause-rows : goal.returns-then-place-held-clause-rows
returns-then-place-held-clause-rows c =
    let pieces = c.self.inside.pieces in
    let rows = c.self.inside.tail.rows in
    let place = c.args.place in
    ap (λ l. l ++ rows) c.mark.ensures ∙ sym (mark-in-front pieces rows place (omega (arith, c.if-place-held.true, c.len-held.ensures)))
    ∙ ap (λ w. with_mark place w.rows) c.self.view_is

pub returns-else-place-held-clause-rows : goal.returns-else-place-held-clause-rows
returns-else-place-held-clause-rows c =
    let pieces = c.self.inside.pieces in
    let rows = c.self.inside.tail.rows in
    let place = c.args.place in
    let at = place - c.len-held.result in
    ap (λ l. pieces ++ l) c.mark-else-place-held.ensures.rows ∙ sym (mark-behind pieces rows at)
    ∙ ap (λ (n : ℕ). with_mark n (pieces ++ rows)) {x = length pieces + at} {y = place} (omega (arith, c.if-place-held.false, c.len-held.ensures))
    ∙ ap (λ w. with_mark place w.rows) c.self.view_is
