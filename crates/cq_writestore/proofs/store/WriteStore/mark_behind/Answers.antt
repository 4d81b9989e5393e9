use Rattle.std.proofs.Common.{◌≡◌, ◌∙◌, ◌+◌, ◌++◌, ap, arith, drop, length, sym, take}
use Rattle.std.proofs.lemmas.List.{length-take-le, take-append-drop}
use Rattle.cq_segments_pieces.specs.Marked.{rows_of, with_mark}
use Rattle.cq_segments_pieces.proofs.Marks.{flags-none}
use Rattle.cq_writestore.proofs.Flagged.{length-flags_behind, marked-behind, passed-behind}
use Rattle.cq_writestore.proofs.store.WriteStore.mark_behind.Goals.{then-flags-place, else-flags-place}
use Rattle.cq_writestore.proofs.store.WriteStore.mark_behind.Goals as goal

pub loop-place-init : goal.loop-place-init
loop-place-init c =
    let held = c.args.held in
    let old = c.args.self.now.rows in
    sym (take-append-drop held old) ∙ ap (λ l. take held old ++ l) (c.requires.fresh ∙ sym (flags-none (rows_of (drop held old))))

pub mark-requires : goal.mark-requires
mark-requires c =
    let old = c.args.self.now.rows in
    omega (arith, c.loop-place-test.true, c.requires.there, ap length c.loop-place.invariant, length-flags_behind c.args.held (take c.loop-place.place c.args.flags.now) old)

pub loop-place-preserved : goal.loop-place-preserved
loop-place-preserved c =
    let held = c.args.held in
    let old = c.args.self.now.rows in
    let flags = c.args.flags.now in
    let place = c.loop-place.place in
    let lt = c.loop-place-test.true in
    let is : length (take held old) ≡ held = length-take-le held old (omega (arith, c.requires.there)) in
    elim c.if-flags-place.branch [
      | then-flags-place w ↦ rw w.self-is (w.mark.ensures.rows ∙ ap (with_mark (held + place)) c.loop-place.invariant ∙ marked-behind (take held old) (rows_of (drop held old)) flags held place is lt w.if-flags-place.true)
      | else-flags-place w ↦ rw w.self-is (c.loop-place.invariant ∙ passed-behind (take held old) (rows_of (drop held old)) flags held place is lt w.if-flags-place.false)
    ]
