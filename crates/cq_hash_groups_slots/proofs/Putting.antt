-- Values counted in groups, and the better one of two.
use Rattle.std.proofs.Common.{◌≡◌, ℕ, zero, suc, ◌+◌, ◌-◌, ◌≤◌, Bool, false, cond, List, [], ◌∷◌, length, get_or, set, refl, sym, ◌∙◌, ap, arith, subst, Ordering, Less, Equal, Greater}
use Rattle.std.specs.Ordering.{is_gt, is_lt}
use Rattle.cq_values.specs.declared.value.Value.{Value}
use Rattle.cq_values.specs.Keys.{value_cmp_same}
use Rattle.cq_values.specs.Order.{value_cmp}
use Rattle.cq_model_bags.proofs.Totals.{by_test}
use Rattle.cq_model.specs.Condition.{is_null}
use Rattle.cq_model.specs.Group.{higher}
use Rattle.cq_hash_groups_sums.specs.declared.wide_sums.Sum.{Sum}
use Rattle.cq_hash_groups_sums.specs.Puts.{put_all, no_sum}
use Rattle.cq_hash_groups_sums.proofs.Putting.{set-each}
use Rattle.cq_hash_groups_slots.specs.Slots.{rows_counted}
use Rattle.cq_hash_groups_slots.specs.Puts.{put_count, put_null, AreCountsWithin, AreKnown}

-- ---- how large counts are
count-next : (most count : ℕ) (v : Value) → count ≤ most → put_count count v ≤ most + 1
count-next most count v h = by_test (is_null v) (λ k. rw k (omega (arith, h))) (λ k. rw k (omega (arith, h)))

pub counts-next : (most : ℕ) (counts : List ℕ) (n : ℕ) (v : Value) → AreCountsWithin most counts → AreCountsWithin (most + 1) (set counts n (put_count (get_or counts n 0) v))
counts-next most counts n v all =
    set-each (λ g c. c ≤ most + 1) counts n (put_count (get_or counts n 0) v) 0 (count-next most (get_or counts n 0) v (all n)) (λ g. omega (arith, all g))

pub counts-put : (most : ℕ) (numbers : List ℕ) (values : List Value) (counts : List ℕ) → AreCountsWithin most counts → AreCountsWithin (most + length numbers) (put_all put_count 0 numbers values counts)
counts-put most [] values counts all g = omega (arith, all g)
counts-put most (n ∷ numbers) [] counts all g = omega (arith, all g)
counts-put most (n ∷ numbers) (v ∷ values) counts all g =
    let h = counts-put (most + 1) numbers values (set counts n (put_count (get_or counts n 0) v)) (counts-next most counts n v all) g in omega (arith, h)

null-within : (most count : ℕ) (v : Value) → count ≤ most → put_null count v ≤ most + 1
null-within most count v h = by_test (is_null v) (λ k. rw k (omega (arith, h))) (λ k. rw k (omega (arith, h)))

pub nulls-put : (most : ℕ) (numbers : List ℕ) (values : List Value) (nulls : List ℕ) → AreCountsWithin most nulls → AreCountsWithin (most + length numbers) (put_all put_null 0 numbers values nulls)
nulls-put most [] values nulls all g = omega (arith, all g)
nulls-put most (n ∷ numbers) [] nulls all g = omega (arith, all g)
nulls-put most (n ∷ numbers) (v ∷ values) nulls all g =
    let more = put_null (get_or nulls n 0) v in
    let next = set-each (λ g c. c ≤ most + 1) nulls n more 0 (null-within most (get_or nulls n 0) v (all n)) (λ g. omega (arith, all g)) in
    let h = nulls-put (most + 1) numbers values (set nulls n more) next g in omega (arith, h)

-- where none is NULL, no NULL is counted
put-known : (count : ℕ) (v : Value) → is_null v ≡ false → put_null count v ≡ count
put-known count v k = rw k refl

set-same : (counts : List ℕ) (n : ℕ) → set counts n (get_or counts n 0) ≡ counts
set-same [] n = refl
set-same (c ∷ counts) zero = refl
set-same (c ∷ counts) (suc n) = ap (λ (cs : List ℕ). c ∷ cs) (set-same counts n)

pub nulls-of_known : (numbers : List ℕ) (values : List Value) (counts : List ℕ) → AreKnown values → put_all put_null 0 numbers values counts ≡ counts
nulls-of_known [] values counts known = refl
nulls-of_known (n ∷ numbers) [] counts known = refl
nulls-of_known (n ∷ numbers) (v ∷ values) counts known =
    ap (λ (cs : List ℕ). put_all put_null 0 numbers values cs) (ap (set counts n) (put-known (get_or counts n 0) v (known 0 (omega arith))) ∙ set-same counts n)
    ∙ nulls-of_known numbers values counts (λ place lt. known (suc place) (omega (arith, lt)))

-- as many rows as values and NULLs
pub rows-at : (sums : List Sum) (nulls : List ℕ) (g : ℕ) → get_or (rows_counted sums nulls) g 0 ≡ (get_or sums g no_sum).count + get_or nulls g 0
rows-at [] nulls g = omega arith
rows-at (s ∷ sums) [] zero = omega arith
rows-at (s ∷ sums) [] (suc g) = rows-at sums [] g
rows-at (s ∷ sums) (n ∷ nulls) zero = omega arith
rows-at (s ∷ sums) (n ∷ nulls) (suc g) = rows-at sums nulls g

-- the greater value is the other one exactly where this one is less
pub higher-by_less : (v w : Value) (o : Ordering) (less : Bool) → o ≡ value_cmp v w → less ≡ is_lt o → higher v w ≡ cond less w v
higher-by_less v w Less less o_is less_is = subst (λ (x : Ordering). cond (is_gt x) v w ≡ cond less w v) o_is (ap (λ (b : Bool). cond b w v) (sym less_is))
higher-by_less v w Equal less o_is less_is =
    subst (λ (x : Ordering). cond (is_gt x) v w ≡ cond less w v) o_is (sym (value_cmp_same v w (sym o_is)) ∙ ap (λ (b : Bool). cond b w v) (sym less_is))
higher-by_less v w Greater less o_is less_is = subst (λ (x : Ordering). cond (is_gt x) v w ≡ cond less w v) o_is (ap (λ (b : Bool). cond b w v) (sym less_is))
