-- The key of a value of a group, and what one key more gives each group.
use Rattle.std.proofs.Common.{◌≡◌, ℕ, ◌+◌, pos, true, false, not, ◌||◌, cond, List, [], ◌∷◌, ◌++◌, map, filter, length, refl, sym, ◌∙◌, ap, ap₂, true≢false}
use Rattle.std.specs.List.{AllByRecursion, list_any}
use Rattle.std.proofs.lemmas.Bool.{and_parts, and_from, and_left, and_right}
use Rattle.std.proofs.lemmas.List.{append-nil, length-append, map-append}
use Rattle.std.proofs.lemmas.List.Elements.{filter-append}
use Rattle.indexmap.specs.IndexSet.{insert_key}
use Rattle.cq_values.specs.declared.value.Value.{Value}
use Rattle.cq_values.specs.declared.value.Value.TheVariants.{Number}
use Rattle.cq_values.specs.Keys.{same_row-refl, same_row-same}
use Rattle.cq_values.specs.Order.{same_row}
use Rattle.cq_values.specs.Value.{Row, column}
use Rattle.cq_model_bags.proofs.Totals.{by_test}
use Rattle.cq_model.specs.Condition.{is_null}
use Rattle.cq_hash_keys_values.specs.Values.{same_value}
use Rattle.cq_hash_keys_values.proofs.ValueKeys.{value-itself, value-same}
use Rattle.cq_hash_keys.specs.Keys.{HasValues}
use Rattle.cq_hash_groups_distinct.specs.Sets.{group_value, is_number_of, is_of, put_value, set_of}

pub number-itself : (n : ℕ) → is_number_of n (Number (pos n)) ≡ true
number-itself n = value-itself (Number (pos n))

pub number-other : (group n : ℕ) → (group ≡ n → ⊥) → is_number_of group (Number (pos n)) ≡ false
number-other group n apart = by_test (is_number_of group (Number (pos n)))
    (λ k. absurd (apart (let e = value-same (Number (pos n)) (Number (pos group)) k in cc e)))
    (λ k. k)

-- the values of one more key stand behind
pub set-push : (keys : List Row) (key : Row) (group : ℕ) → set_of (keys ++ key ∷ []) group ≡ set_of keys group ++ cond (is_of group key) (column key 1 ∷ []) []
set-push keys key group =
    ap (map (λ k. column k 1)) (filter-append (is_of group) keys (key ∷ []))
    ∙ map-append (λ k. column k 1) (filter (is_of group) keys) (filter (is_of group) (key ∷ []))
    ∙ ap (λ (vs : List Value). set_of keys group ++ vs) (by_test (is_of group key) (λ k. rw k refl) (λ k. rw k refl))

pub size-push : (keys : List Row) (key : Row) (group : ℕ) → length (set_of (keys ++ key ∷ []) group) ≡ length (set_of keys group) + cond (is_of group key) 1 0
size-push keys key group =
    ap length (set-push keys key group) ∙ length-append (set_of keys group) (cond (is_of group key) (column key 1 ∷ []) [])
    ∙ ap (λ (n : ℕ). length (set_of keys group) + n) (by_test (is_of group key) (λ k. rw k refl) (λ k. rw k refl))

-- a key of another group, or of NULL, gives it nothing
set-without : (keys : List Row) (key : Row) (group : ℕ) → is_of group key ≡ false → set_of (insert_key same_row keys key) group ≡ set_of keys group
set-without keys key group other = by_test (list_any (same_row key) keys)
    (λ a. ap (λ b. set_of (cond b keys (keys ++ key ∷ [])) group) a)
    (λ a.
    ap (λ b. set_of (cond b keys (keys ++ key ∷ [])) group) a ∙ set-push keys key group
    ∙ ap (λ b. set_of keys group ++ cond b (column key 1 ∷ []) []) other ∙ append-nil (set_of keys group))

-- keys of one group are the same where their values are
same-second : (a v w : Value) → same_row (a ∷ v ∷ []) (a ∷ w ∷ []) ≡ same_value v w
same-second a v w = by_test (same_value v w)
    (λ k. ap (λ x. same_row (a ∷ v ∷ []) (a ∷ x ∷ [])) (sym (value-same v w k)) ∙ same_row-refl (a ∷ v ∷ []) ∙ sym k)
    (λ k. by_test (same_row (a ∷ v ∷ []) (a ∷ w ∷ []))
    (λ t.
    let e = same_row-same (a ∷ v ∷ []) (a ∷ w ∷ []) t in
    let is : v ≡ w = ap (λ (r : Row). column r 1) e in
    absurd (true≢false (sym (value-itself v) ∙ ap (same_value v) is ∙ k)))
    (λ t. t ∙ sym k))

module _ (n : ℕ) (v : Value) where
  abbrev key : Row
  key = group_value (n, v)

  -- what a key of the group is
  key-is : (k : Row) → HasValues 2 k → is_of n k ≡ true → k ≡ Number (pos n) ∷ column k 1 ∷ []
  key-is [] wide of = absurd (cc wide)
  key-is (a ∷ []) wide of = absurd (cc wide)
  key-is (a ∷ b ∷ []) wide of = ap (λ x. x ∷ b ∷ []) (value-same a (Number (pos n)) (and_parts (is_number_of n a) (not (is_null b)) of).0)
  key-is (a ∷ b ∷ c ∷ k) wide of = absurd (cc wide)

  -- a value is among the keys where it is among those of its group
  among-set : is_null v ≡ false → (keys : List Row) → AllByRecursion (HasValues 2) keys → list_any (same_row key) keys ≡ list_any (same_value v) (set_of keys n)
  among-set there [] wide = refl
  among-set there (k ∷ keys) wide = by_test (is_of n k)
      (λ of.
      let here : same_row key k ≡ same_value v (column k 1) = ap (same_row key) (key-is k wide.0 of) ∙ same-second (Number (pos n)) v (column k 1) in
      ap₂ (λ a b. a || b) here (among-set there keys wide.1) ∙ sym (ap (λ b. list_any (same_value v) (map (λ x. column x 1) (cond b (k ∷ filter (is_of n) keys) (filter (is_of n) keys)))) of))
      (λ of.
      let here : same_row key k ≡ false = by_test (same_row key k)
      (λ t.
      let e : key ≡ k = same_row-same key k t in
      let is : is_of n key ≡ true = and_from (is_number_of n (Number (pos n))) (not (is_null v)) (number-itself n) (ap not there) in
      absurd (true≢false (sym is ∙ ap (is_of n) e ∙ of)))
      (λ t. t) in
      ap₂ (λ a b. a || b) here (among-set there keys wide.1) ∙ sym (ap (λ b. list_any (same_value v) (map (λ x. column x 1) (cond b (k ∷ filter (is_of n) keys) (filter (is_of n) keys)))) of))

  -- the group has the value then
  pub set-here : (keys : List Row) → AllByRecursion (HasValues 2) keys → set_of (insert_key same_row keys key) n ≡ put_value (set_of keys n) v
  set-here keys wide = by_test (is_null v)
      (λ null. set-without keys key n (and_right (is_number_of n (Number (pos n))) (not (is_null v)) (ap not null)) ∙ sym (ap (λ b. cond b (set_of keys n) (insert_key same_value (set_of keys n) v)) null))
      (λ there.
      let set = set_of keys n in
      let is : is_of n key ≡ true = and_from (is_number_of n (Number (pos n))) (not (is_null v)) (number-itself n) (ap not there) in
      let goes : set_of (keys ++ key ∷ []) n ≡ set ++ v ∷ [] = set-push keys key n ∙ ap (λ b. set ++ cond b (v ∷ []) []) is in
      let both = among-set there keys wide in
      by_test (list_any (same_row key) keys)
      (λ a.
      ap (λ b. set_of (cond b keys (keys ++ key ∷ [])) n) a
      ∙ sym (ap (λ b. cond b set (insert_key same_value set v)) there ∙ ap (λ b. cond b set (set ++ v ∷ [])) (sym both ∙ a)))
      (λ a.
      ap (λ b. set_of (cond b keys (keys ++ key ∷ [])) n) a ∙ goes
      ∙ sym (ap (λ b. cond b set (insert_key same_value set v)) there ∙ ap (λ b. cond b set (set ++ v ∷ [])) (sym both ∙ a))))

  -- and no other group
  pub set-there : (keys : List Row) (group : ℕ) → (group ≡ n → ⊥) → set_of (insert_key same_row keys key) group ≡ set_of keys group
  set-there keys group apart = set-without keys key group (and_left (is_number_of group (Number (pos n))) (not (is_null v)) (number-other group n apart))
