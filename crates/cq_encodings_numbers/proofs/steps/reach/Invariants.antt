use Rattle.std.proofs.Common.{drop, get_or, take, ◌*◌, ◌+◌, ◌-◌, ◌/◌, ◌≡◌}
use Rattle.cq_encodings_numbers.specs.Steps.{walked}
use Rattle.cq_encodings_numbers.proofs.steps.reach.Given as goal

-- the number that the steps so far lead to
abbrev pub invariant-loop-i : goal.invariant-loop-i
invariant-loop-i l = l.number ≡ walked l.least (get_or l.marks (l.place / 1024) 0) (take (l.i - 1024 * (l.place / 1024)) (drop (1024 * (l.place / 1024) + 1) l.steps))
