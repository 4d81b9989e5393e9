-- Values that all count in one group.
use Rattle.std.proofs.Common.{◌≡◌, ℕ, suc, ◌+◌, ◌-◌, ◌<◌, Bool, cond, List, [], ◌∷◌, length, get_or, set, sym, ◌∙◌, ap, arith}
use Rattle.std.proofs.lemmas.List.{get_or-set_same, set-get_or, set-set, length-set}
use Rattle.cq_values.specs.declared.value.Value.{Value}
use Rattle.cq_hash_groups_sums.specs.Puts.{AreOfOne, put_all}
use Rattle.cq_hash_groups_slots.specs.Puts.{AreKnown, put_count}

-- where no value is NULL all are counted at once
pub counted-at_hand : (group : ℕ) (numbers : List ℕ) (values : List Value) (counts : List ℕ) → group < length counts → AreOfOne group numbers → AreKnown values → length numbers ≡ length values
    → set counts group (get_or counts group 0 + length numbers) ≡ put_all put_count 0 numbers values counts
counted-at_hand group [] values counts here one known same = ap (set counts group) (omega arith) ∙ set-get_or counts group 0
counted-at_hand group (n ∷ numbers) [] counts here one known same = absurd (omega (arith, same))
counted-at_hand group (n ∷ numbers) (v ∷ values) counts here one known same =
    let more = get_or counts group 0 + 1 in
    let next = set counts group more in
    let is : more ≡ put_count (get_or counts n 0) v =
    sym (ap (λ (g : ℕ). put_count (get_or counts g 0) v) (one 0 (omega arith)) ∙ ap (λ (b : Bool). cond b (get_or counts group 0) more) (known 0 (omega arith))) in
    let rest = counted-at_hand group numbers values next (omega (arith, here, length-set counts group more)) (λ place lt. one (suc place) (omega (arith, lt))) (λ place lt. known (suc place) (omega (arith, lt))) (omega (arith, same)) in
    ap (set counts group) (omega arith) ∙ sym (set-set counts group more (more + length numbers))
    ∙ ap (λ (c : ℕ). set next group (c + length numbers)) (sym (get_or-set_same counts group more 0 here)) ∙ rest
    ∙ ap (λ (cs : List ℕ). put_all put_count 0 numbers values cs) (ap (λ (g : ℕ). set counts g more) (sym (one 0 (omega arith))) ∙ ap (set counts n) is)
