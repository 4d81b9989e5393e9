-- Larger columns make larger extents.
use Rattle.std.proofs.Common.{ℕ, ◌≤◌, max, List, [], ◌∷◌, map, arith}
use Rattle.std.proofs.lemmas.Nat.{mul-le}
use Rattle.std.specs.List.{fold}
use Rattle.cq_model.specs.Expr.{Expr, Column, Literal, Negate, Plus, Times, Extract, Cond, Compare, IsNull, Between, In, Like, Not, And, Or}
use Rattle.cq_model.specs.Width.{Extent, IsWithin, extent_plus, extent_times, width, widest, widest_in, sizes_of, limits_of}
use Rattle.cq_model_eval.specs.Laws.{LimitHolds, LimitHoldsIn}

plus_grows : (a b c d : Extent) → IsWithin a b → IsWithin c d → IsWithin (extent_plus a c) (extent_plus b d)
plus_grows a b c d h k = record { size = omega (arith, h.size, k.size); widest = omega (arith, h.size, h.widest, k.size, k.widest) }

times_grows : (a b c d : Extent) → IsWithin a b → IsWithin c d → IsWithin (extent_times a c) (extent_times b d)
times_grows a b c d h k = let product = mul-le a.size c.size b.size d.size h.size k.size in record { size = product; widest = omega (arith, product, h.widest, k.widest) }

module _ (small large : ℕ → ℕ) (kept : (i : ℕ) → small i ≤ large i) where
  pub width_grows : (e : Expr) → IsWithin (width e small) (width e large)
  width_grows (Column i) = let column = kept i in record { size = column; widest = omega arith }
  width_grows (Literal v) = record { size = omega arith; widest = omega arith }
  width_grows (Negate e) = let part = width_grows e in record { size = part.size; widest = omega (arith, part.size, part.widest) }
  width_grows (Plus a b) = plus_grows (width a small) (width a large) (width b small) (width b large) (width_grows a) (width_grows b)
  width_grows (Times a b) = times_grows (width a small) (width a large) (width b small) (width b large) (width_grows a) (width_grows b)
  width_grows (Extract part e) = let day = width_grows e in record { size = omega arith; widest = day.widest }

  exprs_grow : (es : List Expr) (m n : ℕ) → m ≤ n → fold max m (map (widest small) es) ≤ fold max n (map (widest large) es)
  exprs_grow [] m n h = h
  exprs_grow (e ∷ es) m n h = exprs_grow es (max m (widest small e)) (max n (widest large e)) (omega (arith, h, (width_grows e).widest))

  widest_grows : (c : Cond) → widest_in c small ≤ widest_in c large
  widest_grows (Compare c a b) = omega (arith, (width_grows a).widest, (width_grows b).widest)
  widest_grows (IsNull e) = (width_grows e).widest
  widest_grows (Between e a b) = omega (arith, (width_grows e).widest, (width_grows a).widest, (width_grows b).widest)
  widest_grows (In e es) = omega (arith, (width_grows e).widest, exprs_grow es 0 0 (omega arith))
  widest_grows (Like e pattern) = (width_grows e).widest
  widest_grows (Not c) = widest_grows c
  widest_grows (And a b) = omega (arith, widest_grows a, widest_grows b)
  widest_grows (Or a b) = omega (arith, widest_grows a, widest_grows b)

pub limit_holds : LimitHolds
limit_holds e columns row kept = width_grows (sizes_of row) (limits_of columns) kept e

pub limit_holds_in : LimitHoldsIn
limit_holds_in c columns row kept = widest_grows (sizes_of row) (limits_of columns) kept c
