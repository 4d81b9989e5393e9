-- What was met, as many more are met; and what was met under another name.
use Rattle.std.proofs.Common.{◌≡◌, ℕ, zero, suc, ◌+◌, ◌<◌, Bool, true, false, ◌||◌, cond, List, [], ◌∷◌, ◌++◌, map, length, get_or, position, Some, None, not, nat_lt, refl, sym, ◌∙◌, ap, ap₂, subst, arith, true≢false}
use Rattle.std.specs.List.{AllByRecursion, IsDistinct, list_any, position_or_len}
use Rattle.std.proofs.lemmas.List.{append-nil, append_assoc, length-map, map-append}
use Rattle.indexmap.specs.IndexSet.{insert_key}
use Rattle.cq_model_bags.proofs.Lists.{all-at, all-push}
use Rattle.cq_model_bags.proofs.Totals.{by_test}
use Rattle.cq_hash_keys_values.specs.Met.{with_new}
use Rattle.cq_hash_keys_values.proofs.Meeting.{once-behind}

module _ {X : Type 0} (same : X → X → Bool) where
  -- what is new of one stands behind
  pub insert-more : (met : List X) (x : X) → (more : List X) × (insert_key same met x ≡ met ++ more)
  insert-more met x = by_test (list_any (same x) met)
      (λ k. ([], ap (λ b. cond b met (met ++ x ∷ [])) k ∙ sym (append-nil met)))
      (λ k. (x ∷ [], ap (λ b. cond b met (met ++ x ∷ [])) k))

  -- what is new stands behind what was met
  pub met-more : (met xs : List X) → (more : List X) × (with_new same met xs ≡ met ++ more)
  met-more met [] = ([], sym (append-nil met))
  met-more met (x ∷ xs) =
      let first = insert-more met x in
      let rest = met-more (insert_key same met x) xs in
      (first.0 ++ rest.0, rest.1 ∙ ap (λ ys. ys ++ rest.0) first.1 ∙ append_assoc met first.0 rest.0)

  -- what holds of all that was met, and of all that is new, holds of all
  pub all-new : (P : X → Type 0) (met xs : List X) → AllByRecursion P met → AllByRecursion P xs → AllByRecursion P (with_new same met xs)
  all-new P met [] all of-xs = all
  all-new P met (x ∷ xs) all of-xs =
      let first : AllByRecursion P (insert_key same met x) = by_test (list_any (same x) met)
      (λ k. subst (AllByRecursion P) (sym (ap (λ b. cond b met (met ++ x ∷ [])) k)) all)
      (λ k. subst (AllByRecursion P) (sym (ap (λ b. cond b met (met ++ x ∷ [])) k)) (all-push P met x all of-xs.0)) in
      all-new P (insert_key same met x) xs first of-xs.1

module _ {X : Type 0} (same : X → X → Bool) (none : X) (is_same : (x y : X) → same x y ≡ true → x ≡ y) (itself : (x : X) → same x x ≡ true) where
  insert-once : (met : List X) (x : X) → IsDistinct same met → IsDistinct same (insert_key same met x)
  insert-once met x once = by_test (list_any (same x) met)
      (λ k. subst (IsDistinct same) (sym (ap (λ b. cond b met (met ++ x ∷ [])) k)) once)
      (λ k. subst (IsDistinct same) (sym (ap (λ b. cond b met (met ++ x ∷ [])) k)) (once-behind same none is_same itself met x k once))

  -- what is there once each stays so
  pub new-once : (met xs : List X) → IsDistinct same met → IsDistinct same (with_new same met xs)
  new-once met [] once = once
  new-once met (x ∷ xs) once = new-once (insert_key same met x) xs (insert-once met x once)

  -- and two numbers of one are one
  pub one-number : (met : List X) (m n : ℕ) → IsDistinct same met → m < length met → n < length met → get_or met m none ≡ get_or met n none → m ≡ n
  unfolding IsDistinct
  one-number [] m n once lt gt is = absurd (omega (arith, lt))
  one-number (y ∷ met) zero zero once lt gt is = refl
  one-number (y ∷ met) zero (suc n) once lt gt is =
      absurd (true≢false (sym (itself y) ∙ ap (same y) is ∙ all-at (λ z. same y z ≡ false) met n none (omega (arith, gt)) once.0))
  one-number (y ∷ met) (suc m) zero once lt gt is =
      absurd (true≢false (sym (itself y) ∙ ap (same y) (sym is) ∙ all-at (λ z. same y z ≡ false) met m none (omega (arith, lt)) once.0))
  one-number (y ∷ met) (suc m) (suc n) once lt gt is = ap suc (one-number met m n once.1 (omega (arith, lt)) (omega (arith, gt)) is)

-- ---- under another name, where two have one name only if they are one
module _ {X Y : Type 0} (same : X → X → Bool) (alike : Y → Y → Bool) (name : X → Y) (In : X → Type 0) (agree : (x y : X) → In x → In y → alike (name x) (name y) ≡ same x y) where
  any-named : (x : X) (met : List X) → In x → AllByRecursion In met → list_any (alike (name x)) (map name met) ≡ list_any (same x) met
  any-named x [] is all = refl
  any-named x (y ∷ met) is all = ap₂ (λ a b. a || b) (agree x y is all.0) (any-named x met is all.1)

  insert-named : (x : X) (met : List X) → In x → AllByRecursion In met → map name (insert_key same met x) ≡ insert_key alike (map name met) (name x)
  insert-named x met is all =
      let e = any-named x met is all in
      by_test (list_any (same x) met)
      (λ k. ap (λ b. map name (cond b met (met ++ x ∷ []))) k ∙ sym (ap (λ b. cond b (map name met) (map name met ++ name x ∷ [])) (e ∙ k)))
      (λ k.
      ap (λ b. map name (cond b met (met ++ x ∷ []))) k ∙ map-append name met (x ∷ [])
      ∙ sym (ap (λ b. cond b (map name met) (map name met ++ name x ∷ [])) (e ∙ k)))

  -- the names of what was met are what was met of the names
  pub new-named : (met xs : List X) → AllByRecursion In met → AllByRecursion In xs → map name (with_new same met xs) ≡ with_new alike (map name met) (map name xs)
  new-named met [] all of-xs = refl
  new-named met (x ∷ xs) all of-xs =
      new-named (insert_key same met x) xs (all-new same In met (x ∷ []) all (of-xs.0, tt)) of-xs.1
      ∙ ap (λ ys. with_new alike ys (map name xs)) (insert-named x met of-xs.0 all)

  -- and a name is found where what it names is
  pub place-named : (x : X) (met : List X) → In x → AllByRecursion In met → position (alike (name x)) (map name met) ≡ position (same x) met
  place-named x met is all = place-same met all
    where
      ends-same : (ys : List X) → AllByRecursion In ys → position_or_len (alike (name x)) (map name ys) ≡ position_or_len (same x) ys
      ends-same [] all = refl
      ends-same (y ∷ ys) all = ap₂ (λ b n. cond (not b) (1 + n) 0) (agree x y is all.0) (ends-same ys all.1)

      place-same : (ys : List X) → AllByRecursion In ys → position (alike (name x)) (map name ys) ≡ position (same x) ys
      place-same ys all = ap₂ (λ m n. cond (nat_lt m n) (Some m) None) (ends-same ys all) (length-map ys name)
