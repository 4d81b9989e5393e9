use Rattle.std.proofs.Common.{◌≡◌, ◌++◌, take}
use Rattle.cq_values.proofs.row.Row.push_copies.Given as goal

-- behind the values that were there stand those so far
abbrev pub invariant-loop-value : goal.invariant-loop-value
invariant-loop-value l = l.self ≡ l.fn.self ++ take l.value-index l.values
