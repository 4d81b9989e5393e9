-- What holds of each element of a list, in lists that are made from it.
use Rattle.std.proofs.Common.{◌≡◌, ℕ, zero, suc, ◌+◌, ◌≤◌, ◌<◌, Bool, List, [], ◌∷◌, ◌++◌, map, filter, take, drop, length, get_or, slice_get, Some, refl, sym, ◌∙◌, ap, ap₂, subst, arith}
use Rattle.std.specs.List.{AllByRecursion, remove}
use Rattle.std.proofs.lemmas.List.{take_more}
use Rattle.std.proofs.lemmas.List.Sums.{count_by-le-length, length-filter}
use Rattle.std.proofs.lemmas.Option.{get_or_from_slice_get, slice_get_within}
use Rattle.cq_model_bags.proofs.Totals.{by_test}

-- functions that agree make the same list
pub map-same : {X Y : Type 0} (f g : X → Y) → ((x : X) → f x ≡ g x) → (xs : List X) → map f xs ≡ map g xs
map-same f g same [] = refl
map-same f g same (x ∷ xs) = ap₂ (λ y ys. y ∷ ys) (same x) (map-same f g same xs)

-- the elements so far and the next
pub take-next : {X : Type 0} (xs : List X) (i : ℕ) (x : X) → slice_get xs i ≡ Some x → take (i + 1) xs ≡ take i xs ++ x ∷ []
take-next xs i x at = take_more xs i x (slice_get_within xs i x at) ∙ ap (λ y. take i xs ++ y ∷ []) (get_or_from_slice_get xs i x x at)

-- a test keeps no more elements than there are
pub fewer : {X : Type 0} (keep : X → Bool) (xs : List X) → length (filter keep xs) ≤ length xs
fewer keep xs = omega (arith, length-filter keep xs, count_by-le-length keep xs)

module _ {X : Type 0} (P : X → Type 0) where
  -- ---- from elements to the list, and back
  -- what holds of each value holds of all in a list
  pub all-of : ((x : X) → P x) → (xs : List X) → AllByRecursion P xs
  all-of each [] = tt
  all-of each (x ∷ xs) = (each x, all-of each xs)

  -- what holds at each place holds of all
  pub all-listed : (xs : List X) → ((i : ℕ) (d : X) → i < length xs → P (get_or xs i d)) → AllByRecursion P xs
  all-listed [] f = tt
  all-listed (x ∷ xs) f = (f 0 x (omega arith), all-listed xs (λ i d h. f (suc i) d (omega (arith, h))))

  -- what holds of all holds at a place
  pub all-at : (xs : List X) (i : ℕ) (d : X) → i < length xs → AllByRecursion P xs → P (get_or xs i d)
  all-at [] i d h all = absurd (omega (arith, h))
  all-at (x ∷ xs) zero d h all = all.0
  all-at (x ∷ xs) (suc i) d h all = all-at xs i d (omega (arith, h)) all.1

  -- and of the element that is read there
  pub all-there : (xs : List X) (i : ℕ) (x : X) → slice_get xs i ≡ Some x → AllByRecursion P xs → P x
  all-there [] i x at all = absurd (cc at)
  all-there (y ∷ ys) zero x at all = subst P (cc at) all.0
  all-there (y ∷ ys) (suc i) x at all = all-there ys i x at all.1

  -- ---- lists behind each other
  -- what holds of all of two lists holds of both together
  pub all-append : (xs ys : List X) → AllByRecursion P xs → AllByRecursion P ys → AllByRecursion P (xs ++ ys)
  all-append [] ys a b = b
  all-append (x ∷ xs) ys a b = (a.0, all-append xs ys a.1 b)

  -- also of one element more
  pub all-push : (xs : List X) (x : X) → AllByRecursion P xs → P x → AllByRecursion P (xs ++ x ∷ [])
  all-push xs x all here = all-append xs (x ∷ []) all (here, tt)

  -- and of the elements so far with the next
  pub all-next : (xs : List X) (i : ℕ) (x : X) → i < length xs → x ≡ get_or xs i x → AllByRecursion P (take i xs) → P x → AllByRecursion P (take (i + 1) xs)
  all-next xs i x h is all here = subst (AllByRecursion P) (sym (take_more xs i x h ∙ ap (λ y. take i xs ++ y ∷ []) (sym is))) (all-push (take i xs) x all here)

  -- what holds of both together holds of the front
  pub all-front : (xs ys : List X) → AllByRecursion P (xs ++ ys) → AllByRecursion P xs
  all-front [] ys all = tt
  all-front (x ∷ xs) ys all = (all.0, all-front xs ys all.1)

  -- and of the rest
  pub all-back : (xs ys : List X) → AllByRecursion P (xs ++ ys) → AllByRecursion P ys
  all-back [] ys all = all
  all-back (x ∷ xs) ys all = all-back xs ys all.1

  -- ---- fewer elements
  -- what holds of all holds of those that a test keeps
  pub all-filter : (keep : X → Bool) (xs : List X) → AllByRecursion P xs → AllByRecursion P (filter keep xs)
  all-filter keep [] all = tt
  all-filter keep (x ∷ xs) all = by_test (keep x) (λ k. rw k (all.0, all-filter keep xs all.1)) (λ k. rw k (all-filter keep xs all.1))

  -- and of the first ones
  pub all-take : (n : ℕ) (xs : List X) → AllByRecursion P xs → AllByRecursion P (take n xs)
  all-take zero xs all = tt
  all-take (suc n) [] all = tt
  all-take (suc n) (x ∷ xs) all = (all.0, all-take n xs all.1)

  -- and of those behind them
  pub all-drop : (n : ℕ) (xs : List X) → AllByRecursion P xs → AllByRecursion P (drop n xs)
  all-drop zero xs all = all
  all-drop (suc n) [] all = tt
  all-drop (suc n) (x ∷ xs) all = all-drop n xs all.1

  -- and of all but one
  pub all-remove : (xs : List X) (n : ℕ) → AllByRecursion P xs → AllByRecursion P (remove xs n)
  all-remove xs n all = all-append (take n xs) (drop (suc n) xs) (all-take n xs all) (all-drop (suc n) xs all)

  -- ---- what follows
  -- what follows from it holds of all
  pub all-weaker : (Q : X → Type 0) → ((x : X) → P x → Q x) → (xs : List X) → AllByRecursion P xs → AllByRecursion Q xs
  all-weaker Q follows [] all = tt
  all-weaker Q follows (x ∷ xs) all = (follows x all.0, all-weaker Q follows xs all.1)

  -- also from two facts
  pub all-both : (Q R : X → Type 0) → ((x : X) → P x → Q x → R x) → (xs : List X) → AllByRecursion P xs → AllByRecursion Q xs → AllByRecursion R xs
  all-both Q R follows [] a b = tt
  all-both Q R follows (x ∷ xs) a b = (follows x a.0 b.0, all-both Q R follows xs a.1 b.1)

  -- and of what is made of each
  pub all-map : {Y : Type 0} (Q : Y → Type 0) (f : X → Y) → ((x : X) → P x → Q (f x)) → (xs : List X) → AllByRecursion P xs → AllByRecursion Q (map f xs)
  all-map Q f follows [] all = tt
  all-map Q f follows (x ∷ xs) all = (follows x all.0, all-map Q f follows xs all.1)
