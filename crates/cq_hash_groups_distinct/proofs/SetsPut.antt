-- Values put into the sets of groups, and the counts of these.
use Rattle.std.proofs.Common.{◌≡◌, ℕ, zero, suc, ◌-◌, ◌<◌, ◌≤◌, List, [], ◌∷◌, ◌++◌, length, get_or, set, take, replicate, refl, sym, ◌∙◌, ap, ap₂, arith, inl, inr, subst}
use Rattle.std.specs.List.{AllByRecursion, IsDistinct}
use Rattle.std.proofs.lemmas.Bool.{cases_lt, cases_eq}
use Rattle.std.proofs.lemmas.List.{get_or_past, get_or-set_same, get_or-set_other, length-append, length-replicate, length-set, nil_from_length, take-append-le, take_all}
use Rattle.std.proofs.lemmas.List.FromFn.{fill_by_all, get_or-map-range_with_len, length-map-range_with_len}
use Rattle.indexmap.specs.IndexSet.{insert_key}
use Rattle.cq_values.specs.declared.value.Value.{Value}
use Rattle.cq_values.specs.Keys.{same_row-refl, same_row-same}
use Rattle.cq_values.specs.Order.{same_row}
use Rattle.cq_values.specs.Value.{Row}
use Rattle.cq_hash_keys_values.specs.Met.{with_new}
use Rattle.cq_hash_keys_values.proofs.Growing.{all-new, met-more, new-once}
use Rattle.cq_hash_keys.specs.Keys.{HasValues, StoredKeys}
use Rattle.cq_hash_groups_sums.specs.Puts.{AreNumbers, grown, put_all}
use Rattle.cq_hash_groups_distinct.specs.Sets.{AddsValues, AreCounted, AreSizes, group_value, group_values, put_value, set_of, sets_in}
use Rattle.cq_hash_groups_distinct.proofs.KeyOf.{set-here, set-there}

-- ---- the set of each group
pub set-at : (groups : ℕ) (keys : List Row) (group : ℕ) → group < groups → get_or (sets_in groups keys) group [] ≡ set_of keys group
set-at groups keys group lt = get_or-map-range_with_len (set_of keys) 0 groups group group [] lt (omega arith)

pub many-sets : (groups : ℕ) (keys : List Row) → length (sets_in groups keys) ≡ groups
many-sets groups keys = length-map-range_with_len (set_of keys) 0 groups

-- lists that have the set of each group
pub are-sets : (keys : List Row) (sets : List (List Value)) (groups : ℕ) → length sets ≡ groups → ((group : ℕ) → group < groups → get_or sets group [] ≡ set_of keys group) → sets ≡ sets_in groups keys
are-sets keys sets groups long each = fill_by_all (set_of keys) sets groups [] long each

-- how many values a group has
pub size-at : (width : ℕ) (keys : List Row) (counts : List ℕ) (group : ℕ) → AreCounted width keys counts → get_or counts group 0 ≡ length (get_or (sets_in (length counts) keys) group [])
size-at width keys counts group are = elim (cases_lt group (length counts)) [
  | inl lt ↦ are.sizes group ∙ ap length (sym (set-at (length counts) keys group lt))
  | inr past ↦ get_or_past counts group 0 past ∙ sym (ap length (get_or_past (sets_in (length counts) keys) group [] (omega (arith, past, many-sets (length counts) keys))))
]

-- ---- values put in
module _ (groups : ℕ) (keys : List Row) (wide : AllByRecursion (HasValues 2) keys) (n : ℕ) (v : Value) (lt : n < groups) where
  abbrev more : List Row
  more = insert_key same_row keys (group_value (n, v))

  -- one value more
  one-put : set (sets_in groups keys) n (put_value (get_or (sets_in groups keys) n []) v) ≡ sets_in groups more
  one-put =
      let sets = sets_in groups keys in
      let one = put_value (get_or sets n []) v in
      let is : one ≡ set_of more n = ap (λ (s : List Value). put_value s v) (set-at groups keys n lt) ∙ sym (set-here n v keys wide) in
      let there : n < length sets = omega (arith, lt, many-sets groups keys) in
      are-sets more (set sets n one) groups (length-set sets n one ∙ many-sets groups keys)
      (λ group within. elim (cases_eq group n) [
        | inl e ↦ ap (λ (g : ℕ). get_or (set sets n one) g []) e ∙ get_or-set_same sets n one [] there ∙ is ∙ ap (set_of more) (sym e)
        | inr apart ↦ get_or-set_other sets n group one [] apart ∙ set-at groups keys group within ∙ sym (set-there n v keys group apart)
      ])

  one-wide : AllByRecursion (HasValues 2) more
  one-wide = all-new same_row (HasValues 2) keys (group_value (n, v) ∷ []) wide (refl, tt)

-- and all of them
pub all-put : (groups : ℕ) (keys : List Row) → AllByRecursion (HasValues 2) keys → (numbers : List ℕ) (values : List Value) → AreNumbers groups numbers
    → sets_in groups (with_new same_row keys (group_values numbers values)) ≡ put_all put_value [] numbers values (sets_in groups keys)
all-put groups keys wide [] values there = refl
all-put groups keys wide (n ∷ numbers) [] there = refl
all-put groups keys wide (n ∷ numbers) (v ∷ values) there =
    all-put groups (more groups keys wide n v there.0) (one-wide groups keys wide n v there.0) numbers values there.1
    ∙ ap (put_all put_value [] numbers values) (sym (one-put groups keys wide n v there.0))

-- a group that is not among them has as many
pub others-stay : (groups : ℕ) (keys : List Row) (numbers : List ℕ) (values : List Value) → AreNumbers groups numbers → (group : ℕ) → groups ≤ group
    → set_of (with_new same_row keys (group_values numbers values)) group ≡ set_of keys group
others-stay groups keys [] values there group past = refl
others-stay groups keys (n ∷ numbers) [] there group past = refl
others-stay groups keys (n ∷ numbers) (v ∷ values) there group past =
    others-stay groups (insert_key same_row keys (group_value (n, v))) numbers values there.1 group past
    ∙ set-there n v keys group (λ e. omega (arith, e, there.0, past))

-- ---- what was put in is counted
module _ (old new : StoredKeys) (counts : List ℕ) (numbers : List ℕ) (values : List Value) (are : AreCounted old.width old.keys counts) (adds : AddsValues old numbers values new) where
  made : new.keys ≡ with_new same_row old.keys (group_values numbers values)
  made = adds.keys are.once

  -- the counts are still those of the keys that there were
  pub front-sizes : AreSizes (take (length old.keys) new.keys) counts
  front-sizes group lt =
      let more = met-more same_row old.keys (group_values numbers values) in
      let front : take (length old.keys) new.keys ≡ old.keys =
      ap (take (length old.keys)) (made ∙ more.1) ∙ take-append-le (length old.keys) old.keys more.0 (omega arith) ∙ take_all (length old.keys) old.keys (omega arith) in
      are.sizes group ∙ ap (λ (ks : List Row). length (set_of ks group)) (sym front)

  pub more-keys : length old.keys ≤ length new.keys
  more-keys =
      let more = met-more same_row old.keys (group_values numbers values) in
      omega (arith, length-append old.keys more.0, ap (λ (ks : List Row). length ks) (made ∙ more.1))

  module _ (next : List ℕ) (there : AreNumbers (length counts) numbers) (sizes : AreSizes new.keys next) (same : length next ≡ length counts) where
    pub still-counted : AreCounted new.width new.keys next
    still-counted = record {
      wide = adds.width ∙ are.wide;
      once = subst (IsDistinct same_row) (sym made) (new-once same_row [] same_row-same same_row-refl old.keys (group_values numbers values) are.once);
      sizes = λ group. elim (cases_lt group (length next)) [
        | inl lt ↦ sizes group lt
        | inr past ↦
            let before : length counts ≤ group = omega (arith, past, same) in
            get_or_past next group 0 past ∙ sym (get_or_past counts group 0 before) ∙ are.sizes group
            ∙ sym (ap (λ (ks : List Row). length (set_of ks group)) made ∙ ap length (others-stay (length counts) old.keys numbers values there group before))
      ];
    }

    pub sets-put : AllByRecursion (HasValues old.width) old.keys → sets_in (length next) new.keys ≡ put_all put_value [] numbers values (sets_in (length counts) old.keys)
    sets-put wide =
        ap₂ sets_in same made
        ∙ all-put (length counts) old.keys (subst (λ (n : ℕ). AllByRecursion (HasValues n) old.keys) are.wide wide) numbers values there

-- ---- more groups
zeros-same : (counts : List ℕ) (n group : ℕ) → get_or (counts ++ replicate n 0) group 0 ≡ get_or counts group 0
zeros-same [] zero group = refl
zeros-same [] (suc n) zero = refl
zeros-same [] (suc n) (suc group) = zeros-same [] n group
zeros-same (c ∷ counts) n zero = refl
zeros-same (c ∷ counts) n (suc group) = zeros-same counts n group

pub counted-grown : (width : ℕ) (keys : List Row) (counts : List ℕ) (n : ℕ) → AreCounted width keys counts → AreCounted width keys (counts ++ replicate n 0)
counted-grown width keys counts n are = record { wide = are.wide; once = are.once; sizes = λ group. zeros-same counts n group ∙ are.sizes group }

-- no keys
pub none-counted : AreCounted 2 [] []
unfolding IsDistinct
none-counted = record { wide = refl; once = tt; sizes = λ group. refl }

pub more-groups : (width : ℕ) (keys : List Row) (counts : List ℕ) (groups : ℕ) → AreCounted width keys counts
    → sets_in (length (counts ++ replicate (groups - length counts) 0)) keys ≡ grown [] groups (sets_in (length counts) keys)
more-groups width keys counts groups are =
    let old = length counts in
    let last = length (counts ++ replicate (groups - old) 0) in
    let sets = sets_in old keys in
    let new = groups - length sets in
    let many = many-sets old keys in
    let none : List (List Value) = replicate new [] in
    let long : length (sets ++ none) ≡ last = omega (arith, length-append sets none, length-replicate {A = List Value} new [], many, length-append counts (replicate (groups - old) 0), length-replicate {A = ℕ} (groups - old) 0) in
    sym (are-sets keys (sets ++ none) last long
    (λ group within. elim (cases_lt group old) [
      | inl lt ↦ nothing-behind sets new group ∙ set-at old keys group lt
      | inr past ↦
          nothing-behind sets new group ∙ get_or_past sets group [] (omega (arith, past, many))
          ∙ sym (nil_from_length (set_of keys group) (sym (are.sizes group) ∙ get_or_past counts group 0 past))
    ]))
  where
    nothing-behind : (ss : List (List Value)) (n group : ℕ) → get_or (ss ++ replicate n []) group [] ≡ get_or ss group []
    nothing-behind [] zero group = refl
    nothing-behind [] (suc n) zero = refl
    nothing-behind [] (suc n) (suc group) = nothing-behind [] n group
    nothing-behind (s ∷ ss) n zero = refl
    nothing-behind (s ∷ ss) n (suc group) = nothing-behind ss n group
