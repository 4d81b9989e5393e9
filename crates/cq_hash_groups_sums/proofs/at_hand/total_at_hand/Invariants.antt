use Rattle.std.proofs.Common.{◌≡◌, ◌+◌, ◌*◌, ◌^◌, ◌≤◌, map, nat_abs, take}
use Rattle.cq_model.specs.Totals.{total_of}
use Rattle.cq_values.specs.declared.value.Value.TheVariants.{Number}
use Rattle.cq_hash_groups_sums.proofs.at_hand.total_at_hand.Given as goal

-- the total so far, which is small
abbrev pub invariant-loop-place : goal.invariant-loop-place
invariant-loop-place g l = (l.total ≡ total_of (take l.place (map Number (g.C.NumberColumn.numbers l.column)))) × (nat_abs l.total ≤ l.place * (2 ^ 52 + 2 ^ 32))
