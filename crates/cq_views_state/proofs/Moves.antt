-- How far stored rows move counts and totals.
use Rattle.std.proofs.Common.{ℕ, ℤ, ◌*◌, ◌≤◌, ◌^◌, nat_abs, List, [], ◌∷◌, map, Option, None, Some, IfSome, arith}
use Rattle.std.specs.List.{AllByRecursion}
use Rattle.std.proofs.lemmas.Int.{unsigned_abs-mul}
use Rattle.std.proofs.lemmas.List.Sums.{sum_by-cons}
use Rattle.std.proofs.lemmas.Nat.{mul-le}
use Rattle.cq_values.specs.Value.{Row}
use Rattle.cq_values.specs.declared.value.Value.{Value}
use Rattle.cq_values.specs.declared.value.Value.TheVariants.{Null, Number, Day, Text}
use Rattle.cq_model_bags.specs.Bag.{Weighted}
use Rattle.cq_model.specs.Sizes.{IsStored}
use Rattle.cq_model.proofs.Extents.{value-within}
use Rattle.cq_model.specs.Eval.{eval}
use Rattle.cq_model.specs.Expr.{Expr, Column, Literal, Negate, Plus, Times, Extract}
use Rattle.cq_model.specs.Width.{IsNarrowAt, part_limit, sizes_of, value_size, width}
use Rattle.cq_model.specs.declared.query.Aggregate.{Aggregate}
use Rattle.cq_model.specs.declared.query.Aggregate.TheVariants.{CountAll, Count, CountDistinct, Sum, Min, Max}
use Rattle.cq_values.specs.declared.day_part.DayPart.{DayPart}
use Rattle.cq_values.specs.declared.day_part.DayPart.TheVariants as parts
use Rattle.cq_sides_weights.proofs.RowByRow.{sizes-cons}
use Rattle.cq_sides_weights.specs.Held.{sizes}
use Rattle.cq_deltas_joins.specs.Steps.{AreStored}
use Rattle.cq_deltas.specs.Additions.{Addition, IsNarrow, IsSmall, IsSmallAddend, addend_of, addition, additions, counted_addend}
use Rattle.cq_deltas.specs.Keyed.{all_total_moves, count_moves}
use Rattle.cq_deltas.specs.Kept.{total_move, total_moves}
use Rattle.cq_deltas.specs.declared.change.Addend.{Addend}
use Rattle.cq_deltas.specs.declared.change.Addend.TheVariants as added

-- ---- what a stored row adds is small
part-small : (part : DayPart) → part_limit part ≤ 2 ^ 127
part-small parts.Year = omega arith
part-small parts.Month = omega arith
part-small parts.Day = omega arith

-- a value that is worked out of a stored row is no larger than a number can be
value-small : (row : Row) → IsStored row → (e : Expr) → IsNarrowAt e row → (width e (sizes_of row)).size ≤ 2 ^ 127
value-small row stored (Column i) narrow = omega (arith, stored i)
value-small row stored (Literal v) narrow = omega (arith, narrow)
value-small row stored (Negate e) narrow = omega (arith, narrow)
value-small row stored (Plus a b) narrow = omega (arith, narrow)
value-small row stored (Times a b) narrow = omega (arith, narrow)
value-small row stored (Extract part e) narrow = part-small part

counted-small : (v : Value) → value_size v ≤ 2 ^ 127 → IfSome (counted_addend v) IsSmallAddend
counted-small Null small = tt
counted-small (Number n) small = small
counted-small (Day d) small = omega arith
counted-small (Text t) small = omega arith

module _ (row : Row) (stored : IsStored row) where
  argument-small : (e : Expr) → IsNarrowAt e row → IfSome (counted_addend (eval e row)) IsSmallAddend
  argument-small e narrow = counted-small (eval e row) (omega (arith, value-within row (sizes_of row) (λ i. omega arith) e, value-small row stored e narrow))

  addend-small : (a : Aggregate) → IsNarrow row a → IsSmall row a
  addend-small CountAll narrow = omega arith
  addend-small (Count e) narrow = argument-small e narrow
  addend-small (Sum e) narrow = argument-small e narrow
  addend-small (CountDistinct e) narrow = tt
  addend-small (Min e) narrow = tt
  addend-small (Max e) narrow = tt

-- ---- so no total moves too far
one-move : (w : ℤ) (o : Option Addend) → IfSome o IsSmallAddend → total_move w o ≤ nat_abs w * 2 ^ 127
one-move w None small = omega arith
one-move w (Some (added.Listed v)) small = omega arith
one-move w (Some (added.Number v)) small = omega (arith, unsigned_abs-mul v w, mul-le (nat_abs v) (nat_abs w) (2 ^ 127) (nat_abs w) small (omega arith))

row-moves : (row : Row) (w : ℤ) (aggregates : List Aggregate) → IsStored row → AllByRecursion (IsNarrow row) aggregates
    → total_moves w (map (addend_of row) aggregates) ≤ nat_abs w * 2 ^ 127
row-moves row w [] stored narrow = omega arith
row-moves row w (a ∷ aggregates) stored narrow =
    omega (arith, one-move w (addend_of row a) (addend-small row stored a narrow.0), row-moves row w aggregates stored narrow.1)

module _ (keys : List ℕ) (aggregates : List Aggregate) where
  -- rows move counts as far as their weights add up
  pub counts-move : (xs : Weighted) → count_moves (additions keys aggregates xs) ≤ sizes xs
  counts-move [] = omega arith
  counts-move (x ∷ xs) =
      omega (arith, sum_by-cons (λ (y : Addition). nat_abs y.weight) (addition keys aggregates x) (additions keys aggregates xs), sizes-cons x xs, counts-move xs)

  -- and stored ones move totals no further than so many numbers
  pub totals-move : ((row : Row) → IsStored row → AllByRecursion (IsNarrow row) aggregates) → (xs : Weighted) → AreStored xs
      → all_total_moves (additions keys aggregates xs) ≤ sizes xs * 2 ^ 127
  totals-move narrow [] stored = omega arith
  totals-move narrow (x ∷ xs) stored =
      let here = row-moves x.0 x.1 aggregates stored.0 (narrow x.0 stored.0) in
      let whole = sum_by-cons (λ (y : Addition). total_moves y.weight y.addends) (addition keys aggregates x) (additions keys aggregates xs) in
      omega (arith, whole, here, sizes-cons x xs, totals-move narrow xs stored.1)
