use Rattle.std.proofs.Common.{ap, length, sym, ◌∙◌}
use Rattle.cq_encodings_numbers.proofs.Walking.{length-all}
use Rattle.cq_encodings_numbers.proofs.steps.Steps.len.Goals as goal

pub returns : goal.returns
returns c =
    let inside = c.self.inside in
    c.len.ensures ∙ sym (length-all inside.marks.items inside.least inside.steps) ∙ ap length c.self.view_is
