use Rattle.std.proofs.Common.{List, ap, arith, get_or, length, sym, ◌<◌, ◌∙◌, ℕ}
use Rattle.cq_encodings_numbers.specs.Steps.{number_at}
use Rattle.cq_encodings_numbers.proofs.Walking.{all_at, length-all}
use Rattle.cq_encodings_numbers.proofs.steps.Steps.at.Goals as goal

pub reach-requires : goal.reach-requires
reach-requires c =
    let inside = c.self.inside in
    omega (arith, c.requires, length-all inside.marks.items inside.least inside.steps, ap length c.self.view_is)

pub returns : goal.returns
returns c =
    let inside = c.self.inside in
    let within : c.args.place < length inside.steps = omega (arith, c.requires, length-all inside.marks.items inside.least inside.steps, ap length c.self.view_is) in
    c.reach.ensures
    ∙ ap (λ (ms : List ℕ). number_at ms inside.least inside.steps c.args.place) c.deref.ensures.value
    ∙ sym (all_at inside.marks.items inside.least inside.steps c.args.place within)
    ∙ ap (λ (ns : List ℕ). get_or ns c.args.place 0) c.self.view_is
