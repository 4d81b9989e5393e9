-- Proofs by cases.
use Rattle.std.proofs.Common.{◌≡◌, ◌⊎◌, inl, inr, Option, Some, None, refl}

-- a proof by which of two holds
pub by-sum : {A B P : Type 0} → A ⊎ B → (A → P) → (B → P) → P
by-sum (inl a) f g = f a
by-sum (inr b) f g = g b

-- a proof by whether something was found
pub by-option : {A P : Type 0} (o : Option A) → ((x : A) → o ≡ Some x → P) → (o ≡ None → P) → P
by-option (Some x) on off = on x refl
by-option None on off = off refl
