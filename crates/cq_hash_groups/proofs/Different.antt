-- The different values of rows: those that are met one after the other are those of the bag.
use Rattle.std.proofs.Common.{◌≡◌, pos, true, false, not, cond, ◌||◌, List, [], ◌∷◌, ◌++◌, map, filter, length, refl, sym, ◌∙◌, ap, true≢false}
use Rattle.std.specs.Bool.{⊤}
use Rattle.std.specs.List.{AllByRecursion, IsDistinct, list_any}
use Rattle.indexmap.specs.IndexSet.{insert_key}
use Rattle.cq_values.specs.declared.value.Value.{Value}
use Rattle.cq_values.specs.declared.value.Value.TheVariants.{Number}
use Rattle.cq_values.specs.Order.{same_row}
use Rattle.cq_values.specs.Value.{Row, column}
use Rattle.cq_model_bags.specs.Bag.{distinct_rows, firsts, once_each}
use Rattle.cq_model_bags.proofs.Distincts.{once_each-map}
use Rattle.cq_model_bags.proofs.Once.{distinct-once}
use Rattle.cq_model_bags.proofs.Totals.{by_test}
use Rattle.cq_model.specs.Condition.{is_null}
use Rattle.cq_model.specs.Eval.{eval}
use Rattle.cq_model.specs.Expr.{Expr}
use Rattle.cq_model.specs.Group.{count_distinct}
use Rattle.cq_hash_keys_values.specs.Met.{with_new}
use Rattle.cq_hash_keys_values.specs.Values.{same_value}
use Rattle.cq_hash_keys_values.proofs.Growing.{new-named}
use Rattle.cq_hash_keys_values.proofs.ValueKeys.{value-same}
use Rattle.cq_hash_keys.proofs.KeyRows.{new-firsts}
use Rattle.cq_hash_groups_distinct.specs.Sets.{put_value}
use Rattle.cq_hash_groups.specs.Groups.{kept_set, known}
use Rattle.cq_hash_groups.proofs.ValuesPut.{known-push}

-- what is not NULL is met among what is not
module _ (v : Value) (there : is_null v ≡ false) where
  not-null : (w : Value) → is_null w ≡ true → same_value v w ≡ false
  not-null w null = by_test (same_value v w)
      (λ s. absurd (true≢false (sym null ∙ ap is_null (sym (value-same v w s)) ∙ there)))
      (λ s. s)

  among-known : (met : List Value) → list_any (same_value v) (known met) ≡ list_any (same_value v) met
  among-known [] = refl
  among-known (w ∷ met) = by_test (is_null w)
      (λ k. rw (k, not-null w k) (among-known met))
      (λ k. rw k (ap (λ b. same_value v w || b) (among-known met)))

-- what is met next is a value, or NULL
known-next : (met : List Value) (v : Value) → known (insert_key same_value met v) ≡ put_value (known met) v
known-next met v = by_test (is_null v)
    (λ n. by_test (list_any (same_value v) met)
    (λ a. rw (n, a) refl)
    (λ a. ap (λ b. known (cond b met (met ++ v ∷ []))) a ∙ known-push met v ∙ rw n refl))
    (λ n. by_test (list_any (same_value v) met)
    (λ a. let b = among-known v n met ∙ a in rw (n, a, b) refl)
    (λ a. let b = among-known v n met ∙ a in ap (λ b. known (cond b met (met ++ v ∷ []))) a ∙ known-push met v ∙ rw (n, b) refl))

known-met : (met vs : List Value) → known (with_new same_value met vs) ≡ with_new same_value (known met) (known vs)
known-met met [] = refl
known-met met (v ∷ vs) =
    known-met (insert_key same_value met v) vs
    ∙ ap (λ (ms : List Value). with_new same_value ms (known vs)) (known-next met v)
    ∙ by_test (is_null v) (λ n. rw n refl) (λ n. rw n refl)

-- a value, as a row of it alone
abbrev single : Value → Row
single v = v ∷ []

anything : (vs : List Value) → AllByRecursion (λ (v : Value). ⊤) vs
anything [] = tt
anything (v ∷ vs) = (tt, anything vs)

first-column : (vs : List Value) → vs ≡ map (λ (r : Row). column r 0) (map single vs)
first-column [] = refl
first-column (v ∷ vs) = ap (λ (ws : List Value). v ∷ ws) (first-column vs)

singles-of : (e : Expr) (rows : List Row) → map single (map (eval e) rows) ≡ map (λ r. eval e r ∷ []) rows
singles-of e [] = refl
singles-of e (r ∷ rows) = ap (λ (rs : List Row). (eval e r ∷ []) ∷ rs) (singles-of e rows)

-- values that are met are those of their rows
met-once : (vs : List Value) → with_new same_value [] vs ≡ map (λ (r : Row). column r 0) (distinct_rows (once_each (map single vs)))
unfolding IsDistinct
met-once vs =
    first-column (with_new same_value [] vs)
    ∙ ap (map (λ (r : Row). column r 0)) (new-named same_value same_row single (λ (v : Value). ⊤) (λ v w a b. refl) [] vs tt (anything vs)
    ∙ new-firsts [] (map single vs) tt ∙ sym (distinct-once (map single vs)))

-- the count of an aggregate
pub distinct-of : (e : Expr) (rows : List Row) → Number (pos (length (kept_set (map (eval e) rows)))) ≡ Number (count_distinct e (once_each rows))
distinct-of e rows =
    let vs = map (eval e) rows in
    let bag = ap once_each (singles-of e rows) ∙ once_each-map (λ r. eval e r ∷ []) rows in
    ap (λ (ws : List Value). Number (pos (length ws)))
    (sym (known-met [] vs) ∙ ap known (met-once vs ∙ ap (λ xs. map (λ (r : Row). column r 0) (distinct_rows xs)) bag))
