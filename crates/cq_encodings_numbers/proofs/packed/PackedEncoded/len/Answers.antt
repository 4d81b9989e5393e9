use Rattle.std.proofs.Common.{ap, length, sym, ◌∙◌}
use Rattle.cq_encodings_numbers.proofs.Above.{length-packed}
use Rattle.cq_encodings_numbers.proofs.packed.PackedEncoded.len.Goals as goal

pub returns : goal.returns
returns c =
    let inside = c.self.inside in
    c.len.ensures ∙ sym (length-packed inside.kind inside.least inside.offsets inside.nulls c.self.invariant.are.long) ∙ ap length c.self.view_is
