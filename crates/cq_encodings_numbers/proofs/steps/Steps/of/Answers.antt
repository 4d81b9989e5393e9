use Rattle.std.proofs.Common.{List, subst, sym, ◌≡◌, ◌∙◌, ℕ}
use Rattle.cq_encodings_numbers.specs.Steps.{AreSteps}
use Rattle.cq_encodings_numbers.proofs.Walking.{all_are}
use Rattle.cq_encodings_numbers.proofs.steps.Steps.of.Goals as goal

pub returns : goal.returns
returns c =
    let least = c.least_step-least.result in
    let packed = c.in_ok-of.field-0 in
    let same : packed ≡ c.in_ok-steps.steps.items = c.in_ok-of.ensures ∙ c.deref-2.ensures.value in
    all_are c.in_ok-marks.marks.items least packed c.args.numbers.now c.in_ok-marks.ensures (subst (λ (steps : List ℕ). AreSteps least steps c.args.numbers.now) (sym same) c.in_ok-steps.ensures)
