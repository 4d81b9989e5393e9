-- Tables of no columns, and the key of no values.
use Rattle.std.proofs.Common.{◌≡◌, ◌⊎◌, inl, inr, ℕ, zero, suc, ◌+◌, ◌<◌, Bool, true, false, not, nat_eq, cond, List, [], ◌∷◌, ◌++◌, filter, map, replicate, length, Option, Some, None, refl, sym, ◌∙◌, ap, ap₂, subst, arith, true≢false}
use Rattle.std.specs.List.{IsDistinct, range_with_len}
use Rattle.std.proofs.lemmas.List.FromFn.{length-range_with_len}
use Rattle.cq_vectors.specs.Batch.{row_at}
use Rattle.cq_values.specs.declared.value.Value.{Value}
use Rattle.cq_values.specs.Keys.{same_row-refl}
use Rattle.cq_values.specs.Order.{same_row}
use Rattle.cq_values.specs.Value.{Row}
use Rattle.cq_model_bags.proofs.Totals.{by_test}
use Rattle.cq_model_bags.specs.Bag.{firsts}
use Rattle.cq_hash_keys.specs.declared.stage.Stage.{Stage}
use Rattle.cq_hash_keys.specs.Keys.{key_rows, place_of, places_of}
use Rattle.cq_hash_keys_values.specs.Met.{AreNumbersOf}
use Rattle.cq_hash_keys.specs.Table.{IsKeyTable, keys_in}
use Rattle.cq_hash_keys_values.proofs.Choices.{by-sum}
use Rattle.cq_hash_keys_values.proofs.Meeting.{position-last}

-- a table of no columns
pub keys-none : (width : ℕ) (is_met : Bool) (first : List Value) (stages : List Stage) → width ≡ 0 → keys_in width is_met first stages ≡ cond is_met ([] ∷ []) []
keys-none width is_met first stages none = by_test (nat_eq width 0)
    (λ s. rw s refl)
    (λ s. absurd (true≢false (sym (ap (λ (n : ℕ). nat_eq n 0) none) ∙ s)))

-- a table with nothing in it
pub new-table : (width : ℕ) (first : List Value) (stages : List Stage) → first ≡ [] → stages ≡ [] → IsKeyTable width first stages
unfolding IsDistinct
new-table width first stages none empty =
    subst (λ (vs : List Value). IsKeyTable width vs stages) (sym none)
    (subst (IsKeyTable width []) (sym empty) (record { once = tt; are = tt; ready = inr refl }))

-- ---- keys of no values
-- where there is a place the key is met, by the number 0
-- the first of the empty rows is the one
new-empty : (keys : List Row) → ((keys ≡ []) ⊎ (keys ≡ [] ∷ [])) → (len : ℕ) → (keys ≡ [] → 0 < len) → [] ∷ [] ≡ firsts (keys ++ key_rows len [])
new-empty keys either len some = by-sum either
    (λ none. subst (λ (ks : List Row). [] ∷ [] ≡ firsts (ks ++ key_rows len [])) (sym none) (all-empty (range_with_len 0 len) (let lt = some none in omega (arith, lt, length-range_with_len 0 len))))
    (λ one. subst (λ (ks : List Row). [] ∷ [] ≡ firsts (ks ++ key_rows len [])) (sym one) (sym (ap (λ (rs : List Row). [] ∷ rs) (none-other (range_with_len 0 len)))))
  where
    none-other : (places : List ℕ) → filter (λ r. not (same_row [] r)) (firsts (map (row_at []) places)) ≡ []
    none-other [] = refl
    none-other (p ∷ places) = rw (same_row-refl [], none-other places) refl

    all-empty : (places : List ℕ) → 0 < length places → [] ∷ [] ≡ firsts (map (row_at []) places)
    all-empty [] lt = absurd (omega (arith, lt))
    all-empty (p ∷ places) lt = sym (ap (λ (rs : List Row). [] ∷ rs) (none-other places))

pub empty-added : (b : Bool) (len : ℕ) → 0 < len → [] ∷ [] ≡ firsts (cond b ([] ∷ []) [] ++ key_rows len [])
empty-added true len some = new-empty ([] ∷ []) (inr refl) len (λ e. some)
empty-added false len some = new-empty [] (inl refl) len (λ e. some)

pub empty-told : (len : ℕ) → AreNumbersOf [] ([] ∷ []) (key_rows len []) (replicate len 0)
empty-told len = told (range_with_len 0 len) len (length-range_with_len 0 len)
  where
    told : (places : List ℕ) (n : ℕ) → length places ≡ n → AreNumbersOf [] ([] ∷ []) (map (row_at []) places) (replicate n 0)
    told [] zero e = record { named = refl; within = tt }
    told [] (suc n) e = absurd (omega (arith, e))
    told (p ∷ places) zero e = absurd (omega (arith, e))
    told (p ∷ places) (suc n) e =
        let rest = told places n (omega (arith, e)) in
        record { named = ap (λ (rs : List Row). [] ∷ rs) rest.named; within = (omega arith, rest.within) }

pub empty-found : (b : Bool) (len : ℕ) → replicate len (cond b (Some 0) None) ≡ places_of (cond b ([] ∷ []) []) (key_rows len [])
empty-found b len = found (range_with_len 0 len) len (length-range_with_len 0 len) ∙ refl
  where
    here : (c : Bool) → cond c (Some 0) None ≡ place_of (cond c ([] ∷ []) []) []
    here true = sym (position-last (same_row []) [] [] (same_row-refl []) refl)
    here false = refl

    found : (places : List ℕ) (n : ℕ) → length places ≡ n → replicate n (cond b (Some 0) None) ≡ places_of (cond b ([] ∷ []) []) (map (row_at []) places)
    found [] zero e = refl
    found [] (suc n) e = absurd (omega (arith, e))
    found (p ∷ places) zero e = absurd (omega (arith, e))
    found (p ∷ places) (suc n) e = ap₂ (λ (m : Option ℕ) (ms : List (Option ℕ)). m ∷ ms) (here b) (found places n (omega (arith, e)))
