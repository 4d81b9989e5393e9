-- Groups without rows leave, the last one first.
use Rattle.std.proofs.Common.{◌≡◌, ℕ, zero, suc, ◌+◌, ◌<◌, ◌≤◌, true, false, ◌||◌, map, List, [], ◌∷◌, length, take, get_or, slice_get, Some, nat_lt, Bool, if◌then◌else◌, Option, unwrap_or, All, refl, sym, ◌∙◌, ap, subst, arith}
use Rattle.std.proofs.lemmas.Bool.Decides.{nat_tests}
use Rattle.std.specs.List.Sorted.{IsPermutation, IsSortedBy}
use Rattle.std.specs.Cmp.{IsStrictWeakOrder}
use Rattle.std.specs.Map.{keys_of}
use Rattle.std.proofs.lemmas.List.{get_or_default, length-map, length-take, take-take}
use Rattle.std.proofs.lemmas.List.Folds.{list_any_more}
use Rattle.std.proofs.lemmas.List.Sorted.{All-permutation, IsPermutation-map, IsStrictWeakOrder-by_number, IsStrictWeakOrder-flip, list_any-IsPermutation, sorted_far}
use Rattle.std.proofs.lemmas.Option.{get_or_from_slice_get, slice_get_within}
use Rattle.cq_values.specs.Value.{Row}
use Rattle.cq_values.specs.Order.{same_row}
use Rattle.cq_values.specs.Keys.{same_row-refl, same_row-same}
use Rattle.cq_model_bags.proofs.Totals.{by_test}
use Rattle.cq_deltas.specs.Placed.{Placed}
use Rattle.cq_deltas.specs.Additions.{Addition}
use Rattle.cq_deltas.specs.declared.group.Group.{Group as StoredGroup}
use Rattle.cq_deltas.specs.Keyed.{ArePut, AreSettled, HasKeys, KeepPlaces, KeyedGroups, Takes, addition_at, additions_at, is_met, key_at, settled, stored_at}
use Rattle.cq_deltas.proofs.AtKeys.{settled-after}
use Rattle.cq_deltas.proofs.MetKeys.{settled-more, settled-twice, taken}
use Rattle.cq_deltas.proofs.Places.{addition-is, addition-within, all-additions, kept-additions, keys-there}
use Rattle.cq_model_bags.proofs.Lists.{all-at}

-- the order of places from the last to the first
pub falls : {T : Type 0} (place : T → ℕ) → IsStrictWeakOrder (λ (x y : T). nat_lt (place y) (place x))
falls place = IsStrictWeakOrder-flip (λ x y. nat_lt (place x) (place y)) (IsStrictWeakOrder-by_number place)

-- keys before a place are those of the list that is cut there
key-before : (groups : KeyedGroups) (n place : ℕ) → place < n → slice_get (keys_of (take n groups)) place ≡ slice_get (keys_of groups) place
key-before groups zero place h = absurd (omega (arith, h))
key-before [] (suc n) place h = refl
key-before (e ∷ groups) (suc n) zero h = refl
key-before (e ∷ groups) (suc n) (suc place) h = key-before groups n place (omega (arith, h))

-- the groups of the rows so far are settled, and before the last of their places nothing is changed
pub record Leaves (old : KeyedGroups) (rows : List Placed) (i end : ℕ) (now : KeyedGroups) : Type 0 where
  pub done : AreSettled (is_met (take i (additions_at old rows))) old now
  pub front : take end now ≡ take end old
  pub met : end < length old → is_met (take i (additions_at old rows)) (key_at old end) ≡ true
  pub rest : (j : ℕ) (d : Placed) → i ≤ j → j < length rows → (get_or rows j d).place ≤ end

module _ (old : KeyedGroups) (rows : List Placed) where
  -- no row is done, and all groups are there
  pub leave-none : All (λ x. x.place < length old) rows → Leaves old rows 0 (length old) old
  leave-none there = record {
    done = λ k. refl;
    front = refl;
    met = λ h. absurd (omega (arith, h));
    rest = λ j d g h. omega (arith, there j d h);
  }

  -- all rows are done
  pub leave-all : (i end : ℕ) (now : KeyedGroups) → length rows ≤ i → Leaves old rows i end now → AreSettled (is_met (additions_at old rows)) old now
  leave-all i end now h leaves = subst (λ (xs : List Addition). AreSettled (is_met xs) old now) (all-additions old rows i h) leaves.done

module _ (old : KeyedGroups) (rows : List Placed) (fall : IsSortedBy (λ x y. nat_lt y.place x.place) rows) (there : All (λ x. x.place < length old) rows)
    (i end : ℕ) (now : KeyedGroups) (x : Placed) (at : slice_get rows i ≡ Some x) (leaves : Leaves old rows i end now) where
  h : i < length rows
  h = slice_get_within rows i x at

  is : x ≡ get_or rows i x
  is = sym (get_or_from_slice_get rows i x x at)

  abbrev xs : List Addition
  xs = additions_at old rows

  abbrev here : Addition
  here = addition_at old x

  within : i < length xs
  within = addition-within old rows i x at

  is-here : here ≡ get_or xs i here
  is-here = addition-is old rows i x at

  stands : x.place < length old
  stands = subst (λ (y : Placed). y.place < length old) (sym is) (there i x h)

  -- the row's group stands where it stood
  pub stands-now : x.place < end → x.place < length now
  stands-now lt = omega (arith, lt, stands, ap length leaves.front, length-take end now, length-take end old)

  key-now : x.place < end → key_at now x.place ≡ key_at old x.place
  key-now lt =
      ap (λ (o : Option Row). unwrap_or o [])
      (sym (key-before now end x.place lt) ∙ ap (λ (groups : KeyedGroups). slice_get (keys_of groups) x.place) leaves.front ∙ key-before old end x.place lt)

  met-now : is_met (take (i + 1) xs) here.key ≡ true
  met-now =
      list_any_more (λ (y : Addition). same_row y.key here.key) xs i here within
      ∙ subst (λ (y : Addition). (is_met (take i xs) here.key || same_row y.key here.key) ≡ true) is-here
      (rw (same_row-refl here.key) (by_test (is_met (take i xs) here.key) (λ b. rw b refl) (λ b. rw b refl)))

  rest-now : (j : ℕ) (d : Placed) → i + 1 ≤ j → j < length rows → (get_or rows j d).place ≤ x.place
  rest-now j d g n =
      let here : get_or rows i d ≡ x = get_or_default rows i d x h ∙ sym is in
      let far : nat_lt (get_or rows i d).place (get_or rows j d).place ≡ false = sorted_far (λ (p q : Placed). nat_lt q.place p.place) (falls (λ (p : Placed). p.place)) rows fall i j d (omega (arith, g)) n in
      grind (arith, nat_tests, ap (λ (y : Placed). y.place) here, far)

  -- its group leaves if it has no rows
  pub leave-next : x.place < end → (new : KeyedGroups) → AreSettled (same_row (key_at now x.place)) now new → take x.place new ≡ take x.place now → Leaves old rows (i + 1) x.place new
  leave-next lt new settles same = record {
    done =
        settled-more xs i here old now new within is-here leaves.done
        (subst (λ (k : Row). AreSettled (same_row k) now new) (key-now lt) settles);
    front =
        same ∙ sym (take-take x.place end now (omega (arith, lt))) ∙ ap (take x.place) leaves.front ∙ take-take x.place end old (omega (arith, lt));
    met = λ n. met-now;
    rest = rest-now;
  }

  -- its group is that of the row before
  pub leave-again : (x.place < end → ⊥) → Leaves old rows (i + 1) x.place now
  leave-again past = record {
    done = settled-more xs i here old now now within is-here leaves.done again;
    front = subst (λ (n : ℕ). take n now ≡ take n old) (sym same) leaves.front;
    met = λ n. met-now;
    rest = rest-now;
  }
    where
      same : x.place ≡ end
      same = by_test (nat_lt x.place end)
          (λ b. absurd (past (grind (arith, nat_tests, b))))
          (λ b. grind (arith, nat_tests, b, ap (λ (y : Placed). y.place) is, leaves.rest i x (omega arith) h))

      met-before : is_met (take i xs) here.key ≡ true
      met-before = rw same (leaves.met (omega (arith, same, stands)))

      again : AreSettled (same_row here.key) now now
      again k = by_test (same_row here.key k)
          (λ s.
          let met : is_met (take i xs) k ≡ true = subst (λ (q : Row). is_met (take i xs) q ≡ true) (same_row-same here.key k s) met-before in
          let was : stored_at now k ≡ settled (stored_at old k) = leaves.done k ∙ rw met refl in
          was ∙ sym (settled-twice (stored_at old k)) ∙ sym (ap settled was) ∙ rw s refl)
          (λ s. rw s refl)

-- what a change meets is met by its rows in another order, and by groups with the same keys
met-moved : (middle third : KeyedGroups) (rows sorted : List Placed) → keys_of third ≡ keys_of middle → IsPermutation rows sorted → (k : Row) → is_met (additions_at third sorted) k ≡ is_met (additions_at middle rows) k
met-moved middle third rows sorted same moved k =
    let keys : additions_at third sorted ≡ additions_at middle sorted =
    ap (λ (ks : List Row). map (λ (x : Placed). record { key = unwrap_or (slice_get ks x.place) []; weight = x.weight; addends = x.addends }) sorted) same in
    ap (λ (xs : List Addition). is_met xs k) keys
    ∙ sym (list_any-IsPermutation (λ (x : Addition). same_row x.key k) (additions_at middle rows) (additions_at middle sorted)
    (IsPermutation-map (addition_at middle) rows sorted moved))

-- the rows are put in, no group changes while values leave, and then groups leave
module _ (middle third : KeyedGroups) (rows sorted : List Placed) (keys : keys_of third ≡ keys_of middle) (moved : IsPermutation rows sorted) where
  pub moved-there : HasKeys rows middle → All (λ x. x.place < length third) sorted
  moved-there ready =
      let as_long : length third ≡ length middle = sym (length-map third (λ (e : Row × StoredGroup). e.0)) ∙ ap length keys ∙ length-map middle (λ (e : Row × StoredGroup). e.0) in
      All-permutation (λ (x : Placed). x.place < length third) rows sorted moved
      (λ i d h. rw as_long (all-at (λ (x : Placed). x.place < length middle) rows i d h (keys-there middle rows ready)))

  pub moved-settled : (new : KeyedGroups) → ((k : Row) → stored_at third k ≡ stored_at middle k) → AreSettled (is_met (additions_at third sorted)) third new
      → AreSettled (is_met (additions_at middle rows)) middle new
  moved-settled new same drop =
      let settles : AreSettled (is_met (additions_at third sorted)) middle new = settled-after (is_met (additions_at third sorted)) middle third new same drop in
      λ k. settles k ∙ ap (λ (b : Bool). if b then settled (stored_at middle k) else stored_at middle k) (met-moved middle third rows sorted keys moved k)

-- so the change is taken
pub all-taken : (old middle new : KeyedGroups) (rows : List Placed) → HasKeys rows old → KeepPlaces old middle → ArePut old (additions_at old rows) middle → AreSettled (is_met (additions_at middle rows)) middle new
    → Takes old (additions_at old rows) new
all-taken old middle new rows keys keep put drop =
    taken old middle new (additions_at old rows) put
    (subst (λ (xs : List Addition). AreSettled (is_met xs) middle new) (kept-additions old middle keep rows keys) drop)
