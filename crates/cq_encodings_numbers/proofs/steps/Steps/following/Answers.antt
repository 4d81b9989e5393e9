use Rattle.std.proofs.Common.{List, ap, arith, get_or, length, sym, ◌+◌, ◌/◌, ◌<◌, ◌≡◌, ◌∙◌, ℕ}
use Rattle.std.proofs.lemmas.List.{get_or_past}
use Rattle.cq_encodings_numbers.specs.Steps.{next_to, number_at}
use Rattle.cq_encodings_numbers.proofs.Walking.{all_at, length-all, number_at_mark, number_at_next}
use Rattle.cq_encodings_numbers.proofs.steps.Steps.following.Goals as goal

pub overflow_add-place : goal.overflow_add-place
overflow_add-place c =
    let inside = c.self.inside in
    omega (arith, c.requires.there, c.len-len.ensures, length-all inside.marks.items inside.least inside.steps, ap length c.self.view_is)

pub returns-then-place-len : goal.returns-then-place-len
returns-then-place-len c =
    let inside = c.self.inside in
    sym (get_or_past c.args.self.now (c.args.place + 1) 0 (omega (arith, c.if-place-len.true, c.len-len.ensures, length-all inside.marks.items inside.least inside.steps, ap length c.self.view_is)))

pub returns-then-place-eq0 : goal.returns-then-place-eq0
returns-then-place-eq0 c =
    let inside = c.self.inside in
    c.mark_at.ensures
    ∙ ap (λ (ms : List ℕ). get_or ms ((c.args.place + 1) / 1024) 0) c.deref.ensures.value
    ∙ sym (number_at_mark inside.marks.items inside.least inside.steps (c.args.place + 1) c.if-place-eq0.true)
    ∙ sym (all_at inside.marks.items inside.least inside.steps (c.args.place + 1) (omega (arith, c.if-place-len.false, c.len-len.ensures)))
    ∙ ap (λ (ns : List ℕ). get_or ns (c.args.place + 1) 0) c.self.view_is

pub returns-else-place-eq0 : goal.returns-else-place-eq0
returns-else-place-eq0 c =
    let inside = c.self.inside in
    let within : c.args.place + 1 < length inside.steps = omega (arith, c.if-place-len.false, c.len-len.ensures) in
    let number : c.args.number ≡ number_at inside.marks.items inside.least inside.steps c.args.place =
    c.requires.number ∙ ap (λ (ns : List ℕ). get_or ns c.args.place 0) (sym c.self.view_is) ∙ all_at inside.marks.items inside.least inside.steps c.args.place (omega (arith, within)) in
    c.next.ensures
    ∙ ap (λ (n : ℕ). next_to inside.least n c.at.result) number
    ∙ ap (next_to inside.least (number_at inside.marks.items inside.least inside.steps c.args.place)) c.at.ensures
    ∙ sym (number_at_next inside.marks.items inside.least inside.steps c.args.place within c.if-place-eq0.false)
    ∙ sym (all_at inside.marks.items inside.least inside.steps (c.args.place + 1) within)
    ∙ ap (λ (ns : List ℕ). get_or ns (c.args.place + 1) 0) c.self.view_is
