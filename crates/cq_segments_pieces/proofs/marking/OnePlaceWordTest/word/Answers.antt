use Rattle.std.proofs.Common.{arith, sym}
use Rattle.cq_segments_pieces.proofs.Flags.{none_here}
use Rattle.cq_segments_pieces.proofs.marking.OnePlaceWordTest.word.Goals.{else-from-self-via-then-from-self+else-self-from, else-from-self-via-else-from-self}
use Rattle.cq_segments_pieces.proofs.marking.OnePlaceWordTest.word.Goals as goal

pub returns-else-from-self : goal.returns-else-from-self
returns-else-from-self c =
    let place = c.args.self.now.place in
    let from = c.args.from in
    elim c.else-from-self.branch [
      | else-from-self-via-then-from-self+else-self-from w ↦ sym (none_here place from 64 (λ k low high is. omega (arith, low, high, is, w.if-self-from.false)))
      | else-from-self-via-else-from-self w ↦ sym (none_here place from 64 (λ k low high is. omega (arith, low, high, is, w.if-from-self.false)))
    ]
