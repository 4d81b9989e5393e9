-- What was met, each once, as more is met.
use Rattle.std.proofs.Common.{◌≡◌, ℕ, zero, suc, ◌+◌, ◌<◌, ◌≤◌, Bool, true, false, not, ◌||◌, cond, List, [], ◌∷◌, ◌++◌, map, take, length, get_or, position, replicate, Option, Some, None, refl, sym, ◌∙◌, ap, ap₂, subst, arith, true≢false}
use Rattle.std.proofs.lemmas.Grind.{common_steps}
use Rattle.std.specs.List.{AllByRecursion, IsDistinct, list_any, position_or_len}
use Rattle.std.proofs.lemmas.List.{map-append, take_more}
use Rattle.std.proofs.lemmas.List.Folds.{list_any_at, position_or_len_push}
use Rattle.std.proofs.lemmas.List.Quantifiers.{position-Some}
use Rattle.std.proofs.lemmas.List.Sums.{fold_more, prefix_len-le-length}
use Rattle.indexmap.specs.IndexSet.{insert_key}
use Rattle.cq_model_bags.proofs.Lists.{all-at, all-push}
use Rattle.cq_model_bags.proofs.Totals.{by_test}
use Rattle.cq_hash_keys_values.specs.Met.{AreNumbersOf, IsNumberIn, with_new}

module _ {X : Type 0} (test : X → Bool) where
  no-further : (xs : List X) → position_or_len test xs ≤ length xs
  no-further xs = prefix_len-le-length (λ y. not (test y)) xs

  -- what does not pass, behind the others, changes nothing
  pub position-other : (xs : List X) (x : X) → test x ≡ false → position test (xs ++ x ∷ []) ≡ position test xs
  position-other xs x fails = let e = position_or_len_push test xs x in grind (arith, common_steps, no-further xs)

  -- what passes first stands last
  pub position-last : (xs : List X) (x : X) → test x ≡ true → position test xs ≡ None → position test (xs ++ x ∷ []) ≡ Some (length xs)
  position-last xs x passes none = let e = position_or_len_push test xs x in grind (arith, common_steps, no-further xs)

  past-the-end : (xs : List X) → position test xs ≡ None → position_or_len test xs ≡ length xs
  past-the-end xs none = grind (arith, common_steps, no-further xs)

  any-none : (xs : List X) → position_or_len test xs ≡ length xs → list_any test xs ≡ false
  any-none [] e = refl
  any-none (x ∷ xs) e = by_test (test x)
      (λ s. absurd (let k : zero ≡ suc (length xs) = rw s at e in omega (arith, k)))
      (λ s. let k : 1 + position_or_len test xs ≡ suc (length xs) = rw s at e in rw s (any-none xs (omega (arith, k))))

  ends : (xs : List X) → AllByRecursion (λ x. test x ≡ false) xs → position_or_len test xs ≡ length xs
  ends [] all = refl
  ends (x ∷ xs) all = let here : test x ≡ false = all.0 in let rest = ends xs all.1 in rw here (omega (arith, rest))

  -- where none passes there is no place
  pub none-passes : (xs : List X) → AllByRecursion (λ x. test x ≡ false) xs → position test xs ≡ None
  none-passes xs all = let e = ends xs all in grind (arith, common_steps)

  -- what has no place is none of them
  pub none-any : (xs : List X) → position test xs ≡ None → list_any test xs ≡ false
  none-any xs none = any-none xs (past-the-end xs none)

-- a number stays where more is put behind
pub stays : {X : Type 0} (none : X) (met more : List X) (n : ℕ) → n < length met → (n < length (met ++ more)) × (get_or (met ++ more) n none ≡ get_or met n none)
stays none [] more n lt = absurd (omega arith)
stays none (x ∷ met) more zero lt = (omega arith, refl)
stays none (x ∷ met) more (suc n) lt = let rest = stays none met more n (omega arith) in (omega (arith, rest.0), rest.1)

module _ {X : Type 0} (none : X) (met more : List X) where
  -- so do all
  pub same-named : (numbers : List ℕ) → AllByRecursion (λ n. n < length met) numbers → map (λ n. get_or (met ++ more) n none) numbers ≡ map (λ n. get_or met n none) numbers
  same-named [] within = refl
  same-named (n ∷ numbers) within = ap₂ (λ x xs. x ∷ xs) (stays none met more n within.0).1 (same-named numbers within.1)

  pub still-within : (numbers : List ℕ) → AllByRecursion (λ n. n < length met) numbers → AllByRecursion (λ n. n < length (met ++ more)) numbers
  still-within [] within = tt
  still-within (n ∷ numbers) within = ((stays none met more n within.0).0, still-within numbers within.1)

module _ {X : Type 0} (same : X → X → Bool) (none : X) (is_same : (x y : X) → same x y ≡ true → x ≡ y) (itself : (x : X) → same x x ≡ true) where
  -- a number that was found is that of what was looked up
  pub told : (met : List X) (x : X) (n : ℕ) → position (same x) met ≡ Some n → IsNumberIn none met x n
  told met x n is =
      let found = position-Some (same x) met n none is in
      (found.0, sym (is_same x (get_or met n none) found.1))

  -- what is there is not put in again
  pub there-stays : (met : List X) (x : X) (n : ℕ) → position (same x) met ≡ Some n → met ≡ insert_key same met x
  there-stays met x n is =
      let found = position-Some (same x) met n none is in
      sym (ap (λ b. cond b met (met ++ x ∷ [])) (list_any_at (same x) met n none found.0 found.1))

  -- what is new goes behind
  pub goes-behind : (met : List X) (x : X) → position (same x) met ≡ None → met ++ x ∷ [] ≡ insert_key same met x
  goes-behind met x new = sym (ap (λ b. cond b met (met ++ x ∷ [])) (none-any (same x) met new))

  -- and has the next number
  pub last-number : (met : List X) (x : X) → IsNumberIn none (met ++ x ∷ []) x (length met)
  last-number [] x = (omega arith, refl)
  last-number (y ∷ met) x = let rest = last-number met x in (omega (arith, rest.0), rest.1)

  -- what finds all that was met finds it with one more
  pub finds-more : (old new : X → Option ℕ) (met : List X) (x : X) → ((y : X) → old y ≡ position (same y) met) → old x ≡ None → new x ≡ Some (length met)
      → ((y : X) → (y ≡ x → ⊥) → new y ≡ old y) → (y : X) → new y ≡ position (same y) (met ++ x ∷ [])
  finds-more old new met x finds absent there others y = by_test (same y x)
      (λ s.
      let e : y ≡ x = is_same y x s in
      ap new e ∙ there ∙ sym (position-last (same y) met x s (sym (finds y) ∙ ap old e ∙ absent)))
      (λ s.
      others y (λ e. true≢false (sym (itself x) ∙ ap (λ z. same z x) (sym e) ∙ s))
      ∙ finds y ∙ sym (position-other (same y) met x s))

  -- what is there once each stays so with what is new
  symmetric : (y z : X) → same y z ≡ false → same z y ≡ false
  symmetric y z s = by_test (same z y)
      (λ t. let e = is_same z y t in absurd (true≢false (sym (itself y) ∙ ap (same y) (sym e) ∙ s)))
      (λ t. t)

  pub once-behind : (met : List X) (x : X) → list_any (same x) met ≡ false → IsDistinct same met → IsDistinct same (met ++ x ∷ [])
  unfolding IsDistinct
  once-behind [] x none once = (tt, tt)
  once-behind (y ∷ met) x none once = by_test (same x y)
      (λ s. absurd (true≢false (sym (ap (λ b. b || list_any (same x) met) s) ∙ none)))
      (λ s.
      let rest : list_any (same x) met ≡ false = sym (ap (λ b. b || list_any (same x) met) s) ∙ none in
      (all-push (λ z. same y z ≡ false) met x once.0 (symmetric x y s), once-behind met x rest once.1))

  pub once-push : (met : List X) (x : X) → position (same x) met ≡ None → IsDistinct same met → IsDistinct same (met ++ x ∷ [])
  once-push met x new once = once-behind met x (none-any (same x) met new) once

  -- what is there once each is not among those before it
  before-first : (met : List X) (i : ℕ) → IsDistinct same met → i < length met → AllByRecursion (λ y. same (get_or met i none) y ≡ false) (take i met)
  unfolding IsDistinct
  before-first [] i once lt = absurd (omega (arith, lt))
  before-first (y ∷ met) zero once lt = tt
  before-first (y ∷ met) (suc i) once lt =
      (symmetric y (get_or met i none) (all-at (λ z. same y z ≡ false) met i none (omega (arith, lt)) once.0), before-first met i once.1 (omega (arith, lt)))

  pub first-time : (met : List X) (i : ℕ) → IsDistinct same met → i < length met → position (same (get_or met i none)) (take i met) ≡ None
  first-time met i once lt = none-passes (same (get_or met i none)) (take i met) (before-first met i once lt)

  -- ---- numbers of what was met, one after the other
  pub none-told : (met : List X) (numbers : List ℕ) → numbers ≡ [] → AreNumbersOf none met [] numbers
  none-told met numbers empty = subst (AreNumbersOf none met []) (sym empty) (record { named = refl; within = tt })

  put : (met : List X) (x : X) (xs : List X) (numbers : List ℕ) → AreNumbersOf none met xs numbers → AreNumbersOf none (insert_key same met x) xs numbers
  put met x xs numbers h = by_test (list_any (same x) met)
      (λ k. rw k h)
      (λ k. rw k (record { named = same-named none met (x ∷ []) numbers h.within ∙ h.named; within = still-within none met (x ∷ []) numbers h.within }))

  pub numbers-next : (old new : List X) (x : X) (xs : List X) (numbers : List ℕ) (n : ℕ) → new ≡ insert_key same old x → IsNumberIn none new x n → AreNumbersOf none old xs numbers
      → AreNumbersOf none new (xs ++ x ∷ []) (numbers ++ n ∷ [])
  numbers-next old new x xs numbers n made is h =
      let kept : AreNumbersOf none new xs numbers = subst (λ met. AreNumbersOf none met xs numbers) (sym made) (put old x xs numbers h) in
      record {
        named = map-append (λ n. get_or new n none) numbers (n ∷ []) ∙ ap₂ (λ ys y. ys ++ y ∷ []) kept.named is.1;
        within = all-push (λ n. n < length new) numbers n kept.within is.0;
      }

  -- what has a number is not put in again
  pub numbered-stays : (met : List X) (x : X) (n : ℕ) → IsNumberIn none met x n → insert_key same met x ≡ met
  numbered-stays met x n is =
      let passes : same x (get_or met n none) ≡ true = ap (same x) is.1 ∙ itself x in
      ap (λ b. cond b met (met ++ x ∷ [])) (list_any_at (same x) met n none is.0 passes)

  again : (met : List X) (x : X) (n count : ℕ) → IsNumberIn none met x n → with_new same met (replicate count x) ≡ met
  again met x n zero is = refl
  again met x n (suc count) is = ap (λ ys. with_new same ys (replicate count x)) (numbered-stays met x n is) ∙ again met x n count is

  -- one value in many places
  pub filled : (old new : List X) (x : X) (n count : ℕ) → 0 < count → new ≡ insert_key same old x → IsNumberIn none new x n → new ≡ with_new same old (replicate count x)
  filled old new x n zero some made is = absurd (omega (arith, some))
  filled old new x n (suc count) some made is = sym (ap (λ ys. with_new same ys (replicate count x)) (sym made) ∙ again new x n count is)

  pub all-told : (met : List X) (x : X) (n count : ℕ) → IsNumberIn none met x n → AreNumbersOf none met (replicate count x) (replicate count n)
  all-told met x n zero is = record { named = refl; within = tt }
  all-told met x n (suc count) is =
      let rest = all-told met x n count is in
      record { named = ap₂ (λ y ys. y ∷ ys) is.1 rest.named; within = (is.0, rest.within) }

  -- one more of the list
  pub met-next : (start old new : List X) (xs : List X) (i : ℕ) (x : X) → i < length xs → x ≡ get_or xs i none → new ≡ insert_key same old x → old ≡ with_new same start (take i xs)
      → new ≡ with_new same start (take (i + 1) xs)
  met-next start old new xs i x lt is made so_far =
      made ∙ ap₂ (insert_key same) so_far is ∙ sym (fold_more (insert_key same) start xs i none lt)

  pub told-next : (old new : List X) (xs : List X) (i : ℕ) (x : X) (numbers : List ℕ) (n : ℕ) → i < length xs → x ≡ get_or xs i none → new ≡ insert_key same old x → IsNumberIn none new x n
      → AreNumbersOf none old (take i xs) numbers → AreNumbersOf none new (take (i + 1) xs) (numbers ++ n ∷ [])
  told-next old new xs i x numbers n lt is made told so_far =
      subst (λ ys. AreNumbersOf none new ys (numbers ++ n ∷ [])) (ap (λ y. take i xs ++ y ∷ []) is ∙ sym (take_more xs i none lt))
      (numbers-next old new x (take i xs) numbers n made told so_far)

-- one more of what was looked up
pub found-next : {X Y : Type 0} (f : X → Y) (xs : List X) (i : ℕ) (x none : X) (ys : List Y) (y : Y) → i < length xs → x ≡ get_or xs i none → y ≡ f x → ys ≡ map f (take i xs)
    → ys ++ y ∷ [] ≡ map f (take (i + 1) xs)
found-next f xs i x none ys y lt is found so_far =
    ap₂ (λ zs z. zs ++ z ∷ []) so_far (found ∙ ap f is) ∙ sym (ap (map f) (take_more xs i none lt) ∙ map-append f (take i xs) (get_or xs i none ∷ []))
