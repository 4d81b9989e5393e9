-- Where nothing is too wide in a row, each exact result fits.
use Rattle.std.proofs.Common.{ℕ, ◌<◌, ◌^◌, max, List, [], ◌∷◌, map, arith}
use Rattle.std.proofs.lemmas.Int.{ints}
use Rattle.std.specs.List.{fold}
use Rattle.cq_values.specs.Value.{Row}
use Rattle.cq_values.specs.declared.value.Value.{Value}
use Rattle.cq_values.specs.declared.value.Value.TheVariants.{Null, Number, Day, Text}
use Rattle.cq_model.proofs.Extents.{value-within}
use Rattle.cq_model.specs.Eval.{eval}
use Rattle.cq_model.specs.Exact.{AreExactAt, AreExactIn, IsExactAt, ValueInRange}
use Rattle.cq_model.specs.Expr.{Expr, Column, Literal, Negate, Plus, Times, Extract, Cond, Compare, IsNull, Between, In, Like, Not, And, Or}
use Rattle.cq_model.specs.Width.{extent, sizes_of, value_size, widest, widest_at}
use Rattle.cq_model_eval.specs.Laws.{NarrowIsExact, NarrowIsExactIn}

-- a small number fits 128 bits
small-fits : (v : Value) → value_size v < 2 ^ 127 → ValueInRange v
small-fits Null small = tt
small-fits (Number n) small = record { low = omega (arith, ints, small); high = omega (arith, ints, small) }
small-fits (Day d) small = tt
small-fits (Text t) small = tt

module _ (row : Row) where
  -- so does the value of an expression that cannot be too large in the row
  value-fits : (e : Expr) → (extent e row).size < 2 ^ 127 → ValueInRange (eval e row)
  value-fits e small = small-fits (eval e row) (omega (arith, small, value-within row (sizes_of row) (λ i. omega arith) e))

  narrow-exact : (e : Expr) → widest (sizes_of row) e < 2 ^ 127 → IsExactAt e row
  narrow-exact (Column i) narrow = tt
  narrow-exact (Literal v) narrow = tt
  narrow-exact (Negate e) narrow = (narrow-exact e (omega (arith, narrow)), value-fits (Negate e) (omega (arith, narrow)))
  narrow-exact (Plus a b) narrow = (narrow-exact a (omega (arith, narrow)), narrow-exact b (omega (arith, narrow)), value-fits (Plus a b) (omega (arith, narrow)))
  narrow-exact (Times a b) narrow = (narrow-exact a (omega (arith, narrow)), narrow-exact b (omega (arith, narrow)), value-fits (Times a b) (omega (arith, narrow)))
  narrow-exact (Extract part e) narrow = narrow-exact e narrow

  -- each of several, where what came before is not too wide either
  all-exact : (n : ℕ) (es : List Expr) → fold max n (map (widest (sizes_of row)) es) < 2 ^ 127 → AreExactAt es row × (n < 2 ^ 127)
  all-exact n [] narrow = (tt, narrow)
  all-exact n (e ∷ es) narrow =
      let later = all-exact (max n (widest (sizes_of row) e)) es narrow in
      ((narrow-exact e (omega (arith, later.1)), later.0), omega (arith, later.1))

  narrow-exact-in : (c : Cond) → widest_at c row < 2 ^ 127 → AreExactIn c row
  narrow-exact-in (Compare c a b) narrow = (narrow-exact a (omega (arith, narrow)), narrow-exact b (omega (arith, narrow)))
  narrow-exact-in (IsNull e) narrow = narrow-exact e narrow
  narrow-exact-in (Between e a b) narrow = (narrow-exact e (omega (arith, narrow)), narrow-exact a (omega (arith, narrow)), narrow-exact b (omega (arith, narrow)))
  narrow-exact-in (In e es) narrow = (narrow-exact e (omega (arith, narrow)), (all-exact 0 es (omega (arith, narrow))).0)
  narrow-exact-in (Like e pattern) narrow = narrow-exact e narrow
  narrow-exact-in (Not c) narrow = narrow-exact-in c narrow
  narrow-exact-in (And a b) narrow = (narrow-exact-in a (omega (arith, narrow)), narrow-exact-in b (omega (arith, narrow)))
  narrow-exact-in (Or a b) narrow = (narrow-exact-in a (omega (arith, narrow)), narrow-exact-in b (omega (arith, narrow)))

pub narrow_is_exact : NarrowIsExact
narrow_is_exact e row narrow = narrow-exact row e narrow

pub narrow_is_exact_in : NarrowIsExactIn
narrow_is_exact_in c row narrow = narrow-exact-in row c narrow
