use Rattle.std.proofs.Common.{ap, arith, drop, get_or, sym, take, ◌*◌, ◌+◌, ◌-◌, ◌/◌, ◌%◌, ◌∙◌, ℕ}
use Rattle.cq_encodings_numbers.specs.Steps.{next_to, number_at, walked}
use Rattle.cq_encodings_numbers.proofs.Walking.{from_more}
use Rattle.cq_encodings_numbers.proofs.steps.reach.Goals as goal

pub loop-i-preserved : goal.loop-i-preserved
loop-i-preserved c =
    let from = 1024 * (c.args.place / 1024) in
    let number = get_or c.args.marks.now (c.args.place / 1024) 0 in
    let steps = drop (from + 1) c.args.steps.now in
    let n = c.loop-i.i - from in
    c.next-number.ensures
    ∙ ap (λ (m : ℕ). next_to c.args.least m c.at.result) c.loop-i.invariant
    ∙ ap (next_to c.args.least (walked c.args.least number (take n steps)))
    (c.at.ensures ∙ ap (λ (k : ℕ). get_or c.args.steps.now k 0) {x = c.loop-i.i + 1} {y = from + n + 1} (omega arith))
    ∙ sym (from_more c.args.least c.args.steps.now number from n (omega arith))
    ∙ ap (λ (k : ℕ). walked c.args.least number (take k steps)) {x = n + 1} {y = c.loop-i.i + 1 - from} (omega arith)

pub returns : goal.returns
unfolding number_at
returns c =
    let from = 1024 * (c.args.place / 1024) in
    c.loop-i.invariant
    ∙ ap (λ (k : ℕ). walked c.args.least (get_or c.args.marks.now (c.args.place / 1024) 0) (take k (drop (from + 1) c.args.steps.now))) {x = c.loop-i.i - from} {y = c.args.place % 1024} (omega arith)
