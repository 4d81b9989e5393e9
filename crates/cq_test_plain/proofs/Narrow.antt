-- Sizes of a row's values as a list, and the extents over them.
use Rattle.std.proofs.Common.{◌≡◌, ℕ, zero, suc, [], ◌∷◌, map, refl, ◌∙◌, ap}
use Rattle.std.specs.Prelude.{◌^◌, nat_lt, is_some}
use Rattle.cq_values.specs.Value.{Row}
use Rattle.cq_model.specs.Expr.{Expr, Cond}
use Rattle.cq_model.specs.Width.{Extent, extent_limit, limits_of, extent, fitting, sizes_of, value_size, widest_at, widest_limit, widest_in, width}
use Rattle.cq_model_bags.proofs.Totals.{by_test}

-- the limit at a place is the size there
size_at : (row : Row) (i : ℕ) → limits_of (map value_size row) i ≡ sizes_of row i
size_at [] i = refl
size_at (v ∷ row) zero = refl
size_at (v ∷ row) (suc i) = size_at row i

same_sizes : (row : Row) → limits_of (map value_size row) ≡ sizes_of row
same_sizes row = λ k i. size_at row i k

fits_where_narrow : (x : Extent) → is_some (fitting x) ≡ nat_lt x.widest (2 ^ 127)
fits_where_narrow x = by_test (nat_lt x.widest (2 ^ 127)) (λ k. rw k refl) (λ k. rw k refl)

-- an expression is narrow over the sizes where it is in the row
pub narrow_at : (e : Expr) (row : Row) → is_some (fitting (extent_limit e (map value_size row))) ≡ nat_lt (extent e row).widest (2 ^ 127)
narrow_at e row = ap (λ sizes. is_some (fitting (width e sizes))) (same_sizes row) ∙ fits_where_narrow (extent e row)

-- and a condition
pub cond_narrow_at : (c : Cond) (row : Row) → nat_lt (widest_limit c (map value_size row)) (2 ^ 127) ≡ nat_lt (widest_at c row) (2 ^ 127)
cond_narrow_at c row = ap (λ sizes. nat_lt (widest_in c sizes) (2 ^ 127)) (same_sizes row)
