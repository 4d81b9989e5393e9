-- The first that passes a test, and its place.
use Rattle.std.proofs.Common.{◌≡◌, ℕ, Bool, true, false, cond, List, [], ◌∷◌, length, Option, Some, None, refl, sym, ap, ◌∙◌, arith}
use Rattle.std.specs.Prelude.{slice_get, is_some, IfSome, position, nat_lt}
use Rattle.std.proofs.lemmas.Bool.{lt-ltb}
use Rattle.std.specs.List.{find, list_any, position_or_len}
use Rattle.std.proofs.lemmas.List.Folds.{find_at}
use Rattle.cq_model_bags.proofs.Totals.{by_test}
use Rattle.std.proofs.Math.Numerals.{one-add}
use Prim.Native.Nat.compare

-- what is read at a place within the list
there : {X : Type 0} (xs : List X) (n : ℕ) (o : Option X) (b : Bool) → o ≡ slice_get xs n → IfSome (cond b (Some n) None) (λ i. slice_get xs i ≡ o)
there xs n o true e = sym e
there xs n o false e = tt

-- the first that passes is found where `position` says
pub found_there : {X : Type 0} (p : X → Bool) (xs : List X) → IfSome (position p xs) (λ i. slice_get xs i ≡ find p xs)
found_there p xs = there xs (position_or_len p xs) (find p xs) (nat_lt (position_or_len p xs) (length xs)) (find_at p xs)

-- one element more in front
found_here : {X : Type 0} (p : X → Bool) (x : X) (xs : List X) (b : Bool) → p x ≡ b → nat_lt (position_or_len p xs) (length xs) ≡ list_any p xs → nat_lt (position_or_len p (x ∷ xs)) (length (x ∷ xs)) ≡ list_any p (x ∷ xs)
found_here p x xs true e more = rw e (lt-ltb 0 (length (x ∷ xs)) (omega arith))
found_here p x xs false e more = rw (one-add, e, compare.suc-suc) more

-- the first that passes stands within the list where one passes
pub found_within : {X : Type 0} (p : X → Bool) (xs : List X) → nat_lt (position_or_len p xs) (length xs) ≡ list_any p xs
found_within p [] = refl
found_within p (x ∷ xs) = found_here p x xs (p x) refl (found_within p xs)

-- a place is found exactly where the test says so
some_where : (b : Bool) (n : ℕ) → is_some {T = ℕ} (cond b (Some n) None) ≡ b
some_where true n = refl
some_where false n = refl

-- `find` finds an element where one passes
found_where : {X : Type 0} (p : X → Bool) (xs : List X) → is_some (find p xs) ≡ list_any p xs
found_where p [] = refl
found_where p (x ∷ xs) = by_test (p x) (λ k. rw k refl) (λ k. rw k (found_where p xs))

-- and there `position` finds its place
pub same_presence : {X : Type 0} (p : X → Bool) (xs : List X) → is_some (position p xs) ≡ is_some (find p xs)
same_presence p xs = some_where (nat_lt (position_or_len p xs) (length xs)) (position_or_len p xs) ∙ found_within p xs ∙ sym (found_where p xs)

-- so the first has a place there
pub not_there : {X : Type 0} (p : X → Bool) (xs : List X) → list_any p xs ≡ true → position p xs ≡ None → ⊥
not_there p xs among none =
    let n = position_or_len p xs in
    let both : Some n ≡ None = sym (ap (λ (b : Bool). cond b (Some n) None) (found_within p xs ∙ among)) ∙ none in
    cc
