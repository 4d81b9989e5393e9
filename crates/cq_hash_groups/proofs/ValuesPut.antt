-- How what is kept of values changes with one value more.
use Rattle.std.proofs.Common.{◌≡◌, false, cond, List, [], ◌∷◌, ◌++◌, filter, length, refl, sym, ◌∙◌, ap, ap₂, subst, ◌⊎◌, inl, inr}
use Rattle.std.specs.List.{AllByRecursion}
use Rattle.std.proofs.lemmas.List.{length-append}
use Rattle.std.proofs.lemmas.List.Sums.{fold_push}
use Rattle.indexmap.specs.IndexSet.{insert_key}
use Rattle.cq_values.specs.declared.value.Value.{Value}
use Rattle.cq_model_bags.proofs.Totals.{by_test}
use Rattle.cq_model.specs.Condition.{is_null}
use Rattle.cq_model.specs.Group.{extreme}
use Rattle.cq_hash_groups_slots.specs.declared.bests.Extreme.{Extreme}
use Rattle.cq_hash_groups_slots.specs.declared.bests.Extreme.TheVariants.{Least, Greatest}
use Rattle.cq_hash_groups.specs.Groups.{known, kept_count, kept_nulls, kept_set, kept_sum, kept_best}
use Rattle.cq_hash_keys_values.specs.Met.{with_new}
use Rattle.cq_hash_keys_values.specs.Values.{same_value}
use Rattle.cq_hash_groups_distinct.specs.Sets.{put_value}
use Rattle.cq_hash_groups_sums.specs.Puts.{put_sum, summed}
use Rattle.cq_hash_groups_slots.specs.Puts.{best_of, put_best, put_count, put_null}
use Rattle.cq_model.proofs.Extremes.{IsChoice, IsOne, extreme-best, extreme-one, higher-choice, lower-choice}
use Rattle.cq_model.specs.Totals.{total_of}
use Rattle.cq_model.proofs.ListedValues.{total-push}

-- NULL is not known
pub known-push : (vs : List Value) (v : Value) → known (vs ++ v ∷ []) ≡ cond (is_null v) (known vs) (known vs ++ v ∷ [])
known-push [] v = by_test (is_null v) (λ k. rw k refl) (λ k. rw k refl)
known-push (w ∷ vs) v = by_test (is_null w)
    (λ k. rw k (known-push vs v))
    (λ k. rw (k, known-push vs v) (by_test (is_null v) (λ n. rw n refl) (λ n. rw n refl)))

pub count-push : (vs : List Value) (v : Value) → kept_count (vs ++ v ∷ []) ≡ put_count (kept_count vs) v
count-push vs v = ap length (known-push vs v) ∙ by_test (is_null v)
    (λ k. rw k refl)
    (λ k. rw k (length-append (known vs) (v ∷ []) ∙ refl))

nulls-push : (vs : List Value) (v : Value) → filter is_null (vs ++ v ∷ []) ≡ cond (is_null v) (filter is_null vs ++ v ∷ []) (filter is_null vs)
nulls-push [] v = by_test (is_null v) (λ k. rw k refl) (λ k. rw k refl)
nulls-push (w ∷ vs) v = by_test (is_null w)
    (λ k. rw (k, nulls-push vs v) (by_test (is_null v) (λ n. rw n refl) (λ n. rw n refl)))
    (λ k. rw k (nulls-push vs v))

pub null-push : (vs : List Value) (v : Value) → kept_nulls (vs ++ v ∷ []) ≡ put_null (kept_nulls vs) v
null-push vs v = ap length (nulls-push vs v) ∙ by_test (is_null v)
    (λ k. rw k (length-append (filter is_null vs) (v ∷ []) ∙ refl))
    (λ k. rw k refl)

pub set-push : (vs : List Value) (v : Value) → kept_set (vs ++ v ∷ []) ≡ put_value (kept_set vs) v
set-push vs v = ap (with_new same_value []) (known-push vs v) ∙ by_test (is_null v)
    (λ k. rw k refl)
    (λ k. rw k (fold_push (insert_key same_value) [] (known vs) v))

pub sum-push : (vs : List Value) (v : Value) → kept_sum (vs ++ v ∷ []) ≡ put_sum (kept_sum vs) v
sum-push vs v = ap (λ (ws : List Value). summed (length ws) (total_of ws)) (known-push vs v) ∙ by_test (is_null v)
    (λ k. rw k refl)
    (λ k. rw k (ap₂ summed (length-append (known vs) (v ∷ [])) (total-push (known vs) v)))

-- ---- extremes
one-last : (v : Value) (vs : List Value) → IsOne v (vs ++ v ∷ [])
one-last v [] = inl refl
one-last v (w ∷ vs) = inr (one-last v vs)

one-before : (u v : Value) (vs : List Value) → IsOne u vs → IsOne u (vs ++ v ∷ [])
one-before u v [] h = absurd h
one-before u v (w ∷ vs) (inl e) = inl e
one-before u v (w ∷ vs) (inr h) = inr (one-before u v vs h)

one-of_pushed : (u v : Value) (vs : List Value) → IsOne u (vs ++ v ∷ []) → IsOne u vs ⊎ (u ≡ v)
one-of_pushed u v [] (inl e) = inr e
one-of_pushed u v [] (inr h) = absurd h
one-of_pushed u v (w ∷ vs) (inl e) = inl (inl e)
one-of_pushed u v (w ∷ vs) (inr h) = elim (one-of_pushed u v vs h) [ inl g ↦ inl (inr g) | inr e ↦ inr e ]

-- the extreme of some values and one more
extreme-push : {best : Value → Value → Value} {R : Value → Value → Type 0} (c : IsChoice best R) (w : Value) (ws : List Value) (v : Value)
    → extreme best (w ∷ ws ++ v ∷ []) ≡ best (extreme best (w ∷ ws)) v
extreme-push {best} {R} c w ws v =
    let e = extreme best (w ∷ ws) in
    let y = best e v in
    let x = extreme best (w ∷ ws ++ v ∷ []) in
    let y_is_one : IsOne y (w ∷ ws ++ v ∷ []) = elim (c.one e v) [
      | inl is ↦ subst (λ u. IsOne u (w ∷ ws ++ v ∷ [])) (sym is) (one-before e v (w ∷ ws) (extreme-one c w ws))
      | inr is ↦ subst (λ u. IsOne u (w ∷ ws ++ v ∷ [])) (sym is) (one-last v (w ∷ ws))
    ] in
    let y_is_best : R y x = elim (one-of_pushed x v (w ∷ ws) (extreme-one c w (ws ++ v ∷ []))) [
      | inl one ↦ c.trans y e x (c.left e v) (extreme-best c w ws x one)
      | inr is ↦ subst (λ u. R y u) (sym is) (c.right e v)
    ] in
    c.same x y (extreme-best c w (ws ++ v ∷ []) y y_is_one) y_is_best

all-known : (vs : List Value) → AllByRecursion (λ v. is_null v ≡ false) (known vs)
all-known [] = tt
all-known (v ∷ vs) = by_test (is_null v) (λ k. rw k (all-known vs)) (λ k. rw k (k, all-known vs))

one-known : (ws : List Value) → AllByRecursion (λ v. is_null v ≡ false) ws → (v : Value) → IsOne v ws → is_null v ≡ false
one-known [] a v h = absurd h
one-known (w ∷ ws) a v (inl e) = ap is_null e ∙ a.0
one-known (w ∷ ws) a v (inr h) = one-known ws a.1 v h

-- the best of known values and one more
better : {best : Value → Value → Value} {R : Value → Value → Type 0} (c : IsChoice best R) (ws : List Value) → AllByRecursion (λ v. is_null v ≡ false) ws → (v : Value)
    → extreme best (ws ++ v ∷ []) ≡ cond (is_null (extreme best ws)) v (best (extreme best ws) v)
better c [] a v = refl
better {best} {R} c (w ∷ ws) a v =
    let there : is_null (extreme best (w ∷ ws)) ≡ false = one-known (w ∷ ws) a (extreme best (w ∷ ws)) (extreme-one c w ws) in
    rw there (extreme-push c w ws v)

better-of : (which : Extreme) (ws : List Value) → AllByRecursion (λ v. is_null v ≡ false) ws → (v : Value)
    → extreme (best_of which) (ws ++ v ∷ []) ≡ cond (is_null (extreme (best_of which) ws)) v (best_of which (extreme (best_of which) ws) v)
better-of Least ws a v = better lower-choice ws a v
better-of Greatest ws a v = better higher-choice ws a v

pub best-push : (which : Extreme) (vs : List Value) (v : Value) → kept_best which (vs ++ v ∷ []) ≡ put_best which (kept_best which vs) v
best-push which vs v = ap (extreme (best_of which)) (known-push vs v) ∙ by_test (is_null v)
    (λ k. rw k refl)
    (λ k. rw k (better-of which (known vs) (all-known vs) v))
