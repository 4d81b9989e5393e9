-- Values that all go into one group, whose sum is at hand.
use Rattle.std.proofs.Common.{◌≡◌, ℕ, suc, ◌+◌, ◌-◌, ◌^◌, ◌<◌, ◌≤◌, ℤ, ◌+ℤ◌, nat_abs, List, [], ◌∷◌, length, map, get_or, set, refl, sym, ◌∙◌, ap, ap₂, arith, subst}
use Rattle.std.proofs.lemmas.Int.{ints}
use Rattle.std.proofs.lemmas.List.{get_or_default, get_or-set_same, set-get_or, set-set, length-set}
use Rattle.cq_values.specs.declared.value.Value.{Value}
use Rattle.cq_values.specs.declared.value.Value.TheVariants.{Null, Number}
use Rattle.cq_model.specs.Totals.{total_of}
use Rattle.cq_model_bags.proofs.Lists.{all-at}
use Rattle.cq_hash_groups_sums.specs.declared.wide_sums.Sum.{Sum}
use Rattle.cq_hash_groups_sums.specs.Puts.{AreNumbers, AreOfOne, AreSumsWithin, IsSumWithin, PutFrom, most_before, no_sum, put_all, put_sum, summed}
use Rattle.cq_hash_groups_sums.proofs.Putting.{put-done, put_from-next, put_from-within, set-each, sum-more}

-- where there is one group the numbers are its number
pub of-single : (group : ℕ) (numbers : List ℕ) → group < 1 → AreNumbers 1 numbers → AreOfOne group numbers
of-single group numbers is there place lt = omega (arith, is, all-at (λ (n : ℕ). n < 1) numbers place 0 lt there)

-- before the first value the sum at hand is what stands in its place
pub at_hand-first : (numbers : List ℕ) (values : List Value) (old : List Sum) (group : ℕ) (d : Sum) → PutFrom 0 0 numbers values old (set old group (get_or old group d))
at_hand-first numbers values old group d =
    subst (PutFrom 0 0 numbers values old) (sym (set-get_or old group d)) (record { rest = refl; within = λ m all. all; same = refl })

module _ {place : ℕ} {numbers : List ℕ} {values : List Value} {old : List Sum} {group : ℕ} {sum : Sum} (so_far : PutFrom 0 place numbers values old (set old group sum)) (here : group < length old) where
  -- what stands in the place then
  is_at_hand : get_or (set old group sum) group no_sum ≡ sum
  is_at_hand = get_or-set_same old group sum no_sum here

  -- the sum at hand takes the next value
  pub at_hand-next : (v : Value) (more : Sum) → AreOfOne group numbers → place < length numbers → length numbers ≡ length values → v ≡ get_or values place Null
      → more ≡ put_sum sum v → ((m : ℕ) → IsSumWithin m sum → IsSumWithin (m + 1) more) → PutFrom 0 (place + 1) numbers values old (set old group more)
  at_hand-next v more one lt same is_v is_more within =
      subst (PutFrom 0 (place + 1) numbers values old) (set-set old group sum more)
      (put_from-next so_far group v more lt same (sym (one place lt) ∙ get_or_default numbers place 0 group lt) is_v (is_more ∙ ap (λ (x : Sum). put_sum x v) (sym is_at_hand))
      (λ m all. within m (subst (IsSumWithin m) is_at_hand all)))

  -- it leaves room for a value more
  pub at_hand-room : place < length numbers → length numbers ≤ 2 ^ 64 - 1 → AreSumsWithin (most_before (length numbers)) old → IsSumWithin (most_before 1) sum
  at_hand-room lt small room =
      let most = most_before (length numbers) in
      sum-more (most + place) (most_before 1) sum (omega (arith, small, lt))
      (subst (IsSumWithin (most + place)) is_at_hand (put_from-within so_far most room group))

-- written to its place at the end it makes the sums
pub at_hand-written : {place : ℕ} {numbers : List ℕ} {values : List Value} {old : List Sum} (group : ℕ) (sum : Sum) → PutFrom 0 place numbers values old (set old group sum) → (now : List Sum) (done : ℕ)
    → now ≡ old → place ≡ done → PutFrom 0 done numbers values old (set now group sum)
at_hand-written {place} {numbers} {values} {old} group sum so_far now done same is =
    subst (λ (k : ℕ). PutFrom 0 k numbers values old (set now group sum)) is (subst (λ (ss : List Sum). PutFrom 0 place numbers values old (set ss group sum)) (sym same) so_far)

-- numbers put into a sum together are those put in one by one
pub total-at_hand : (group : ℕ) (numbers : List ℕ) (column : List ℤ) (old : List Sum) → group < length old → AreOfOne group numbers → length numbers ≡ length column
    → set old group (summed ((get_or old group no_sum).count + length numbers) ((get_or old group no_sum).total +ℤ total_of (map Number column))) ≡ put_all put_sum no_sum numbers (map Number column) old
total-at_hand group [] [] old here one same = ap (set old group) (ap₂ summed (omega arith) (omega (arith, ints))) ∙ set-get_or old group no_sum
total-at_hand group [] (z ∷ column) old here one same = absurd (omega (arith, same))
total-at_hand group (n ∷ numbers) [] old here one same = absurd (omega (arith, same))
total-at_hand group (n ∷ numbers) (z ∷ column) old here one same =
    let sum = get_or old group no_sum in
    let more = summed (sum.count + 1) (sum.total +ℤ z) in
    let next = set old group more in
    let rest = total-at_hand group numbers column next (omega (arith, here, length-set old group more)) (λ place lt. one (suc place) (omega (arith, lt))) (omega (arith, same)) in
    let is : group ≡ n = sym (one 0 (omega arith)) in
    ap (set old group) (ap₂ summed (omega arith) (omega (arith, ints)))
    ∙ sym (set-set old group more (summed (more.count + length numbers) (more.total +ℤ total_of (map Number column))))
    ∙ ap (λ (x : Sum). set next group (summed (x.count + length numbers) (x.total +ℤ total_of (map Number column)))) (sym (get_or-set_same old group more no_sum here))
    ∙ rest
    ∙ ap (λ (ss : List Sum). put_all put_sum no_sum numbers (map Number column) ss)
    (ap (λ (g : ℕ). set old g more) is ∙ ap (λ (g : ℕ). set old n (put_sum (get_or old g no_sum) (Number z))) is)

-- so all are put in
pub total-put : (group : ℕ) (numbers : List ℕ) (column : List ℤ) (old : List Sum) (sum : Sum) → group < length old → AreOfOne group numbers → length numbers ≡ length column → 0 < length numbers
    → sum ≡ summed ((get_or old group no_sum).count + length numbers) ((get_or old group no_sum).total +ℤ total_of (map Number column)) → nat_abs sum.total ≤ 2 ^ 63
    → PutFrom 0 (length numbers) numbers (map Number column) old (set old group sum)
total-put group numbers column old sum here one same some is small = record {
  rest = put-done put_sum no_sum numbers (map Number column) (set old group sum) (length numbers) (omega arith) ∙ ap (set old group) is ∙ total-at_hand group numbers column old here one same;
  within = λ m all.
      let counted : sum.count ≡ (get_or old group no_sum).count + length numbers = ap (λ (s : Sum). s.count) is in
      let before : (get_or old group no_sum).count ≤ m + 0 = (all group).count in
      let next : IsSumWithin (m + length numbers) sum = record { count = omega (arith, counted, before); total = omega (arith, small, some) } in
      set-each (λ g s. IsSumWithin (m + length numbers) s) old group sum no_sum next (λ g. sum-more (m + 0) (m + length numbers) (get_or old g no_sum) (omega arith) (all g));
  same = length-set old group sum;
}
