use Rattle.std.proofs.Common.{◌≡◌, ◌≤◌, ◌+◌, ◌-◌, length, map, take}
use Rattle.std.specs.Vec.{vec_capacity, vec_len}
use Rattle.cq_values.specs.declared.value.Value.TheVariants.{Number}
use Rattle.cq_values.specs.Value.{column}
use Rattle.cq_values_rows.proofs.value_column.numbers_at.Given as goal

-- the numbers at the places so far, and room for the rest
abbrev pub invariant-loop-place : goal.invariant-loop-place
invariant-loop-place l = record {
  so_far : map Number l.copies.items ≡ map (column (map Number l.numbers)) (take l.place-index l.places);
  room : vec_len l.copies + (length l.places - l.place-index) ≤ vec_capacity l.copies;
}
