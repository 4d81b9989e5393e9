-- The order of rows of which one has no more columns.
use Rattle.std.proofs.Common.{◌≡◌, ℕ, zero, suc, ◌<◌, ◌≤◌, ◌⊎◌, inl, inr, [], ◌∷◌, length, drop, refl, ◌∙◌, arith, nat_cmp}
use Rattle.cq_values.specs.Value.{Row}
use Rattle.cq_values.specs.Order.{row_cmp}

both : (a b : ℕ) → nat_cmp a b ≡ nat_cmp (suc a) (suc b)
both a b = grind arith

-- behind the columns of the shorter one the length decides
pub lasts : (r s : Row) (n : ℕ) → n ≤ length r → n ≤ length s → (length r ≤ n) ⊎ (length s ≤ n) → row_cmp (drop n r) (drop n s) ≡ nat_cmp (length r) (length s)
lasts [] [] zero a b end = refl
lasts [] (w ∷ s) zero a b end = grind arith
lasts (v ∷ r) [] zero a b end = grind arith
lasts (v ∷ r) (w ∷ s) zero a b (inl end) = absurd (omega (arith, end))
lasts (v ∷ r) (w ∷ s) zero a b (inr end) = absurd (omega (arith, end))
lasts [] s (suc n) a b end = absurd (omega (arith, a))
lasts (v ∷ r) [] (suc n) a b end = absurd (omega (arith, b))
lasts (v ∷ r) (w ∷ s) (suc n) a b end = lasts r s n (omega (arith, a)) (omega (arith, b)) (later end) ∙ both (length r) (length s)
  where
    later : (length (v ∷ r) ≤ suc n) ⊎ (length (w ∷ s) ≤ suc n) → (length r ≤ n) ⊎ (length s ≤ n)
    later (inl e) = inl (omega (arith, e))
    later (inr e) = inr (omega (arith, e))
