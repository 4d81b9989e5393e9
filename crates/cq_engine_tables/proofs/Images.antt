-- Images of lists: where the first one stands that passes a test, and those without one of them.
use Rattle.std.proofs.Common.{◌≡◌, ℕ, zero, suc, ◌+◌, Bool, cond, not, List, [], ◌∷◌, map, length, Some, None, refl, ap, ap₂}
use Rattle.std.specs.Prelude.{position, nat_lt}
use Rattle.std.specs.List.{position_or_len, remove}
use Rattle.std.proofs.lemmas.List.{length-map}

module _ {X Y : Type 0} (f : X → Y) where
  -- the first image that passes stands where the first element does whose image passes
  first_of_map : (p : Y → Bool) (xs : List X) → position_or_len p (map f xs) ≡ position_or_len (λ x. p (f x)) xs
  first_of_map p [] = refl
  first_of_map p (x ∷ xs) = ap (λ (n : ℕ). cond (not (p (f x))) (1 + n) 0) (first_of_map p xs)

  pub position-map : (p : Y → Bool) (xs : List X) → position p (map f xs) ≡ position (λ x. p (f x)) xs
  position-map p xs = ap₂ (λ (n m : ℕ). cond (nat_lt n m) (Some n) None) (first_of_map p xs) (length-map xs f)

  -- images without one of them are the images of what is left
  pub remove-map : (xs : List X) (i : ℕ) → remove (map f xs) i ≡ map f (remove xs i)
  remove-map [] zero = refl
  remove-map [] (suc i) = refl
  remove-map (x ∷ xs) zero = refl
  remove-map (x ∷ xs) (suc i) = ap (λ (ys : List Y). f x ∷ ys) (remove-map xs i)
