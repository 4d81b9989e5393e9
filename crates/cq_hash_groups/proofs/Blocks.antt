-- The rows of the groups so far, with those of groups from there on.
use Rattle.std.proofs.Common.{◌≡◌, ◌∙◌, ℕ, zero, suc, ◌+◌, ◌<◌, ◌≤◌, List, [], ◌∷◌, ◌++◌, add-one, ap, arith, get_or, length, map, refl, subst, sym, take, Option}
use Rattle.std.proofs.lemmas.List.{append-nil, append_assoc, get_or_default}
use Rattle.std.proofs.lemmas.List.FromFn.{map-range_with_len_more}
use Rattle.cq_values.specs.Value.{Row}
use Rattle.cq_model_bags.specs.Bag.{once_each}
use Rattle.cq_model.specs.Group.{SumsInRange}
use Rattle.cq_model.specs.declared.query.Aggregate.{Aggregate}
use Rattle.cq_hash_keys.specs.Keys.{key_at}
use Rattle.cq_hash_groups_slots.specs.declared.slots.Slots.{Slots}
use Rattle.cq_hash_groups.specs.Groups.{group_columns, group_keys, shown_row, slots_at}
use Rattle.cq_hash_groups.specs.Shown.{CanAllShow, rows_from}
use Rattle.cq_hash_groups.proofs.Holding.{range-can, range-next, rows-next}
use Rattle.cq_hash_groups.proofs.Showing.{AreShown, shown_rows}

module _ (keys : Option (List ℕ)) (aggregates : List Aggregate) (of found : List Row) (slots : List Slots) (slots_are : slots ≡ map (slots_at (group_columns keys) of found) aggregates) (start : ℕ) where
  same-key : (group : ℕ) → group < length found → key_at found group ≡ get_or found group (key_at found group)
  same-key group lt = get_or_default found group [] (key_at found group) lt

  rows-more : (len : ℕ) → rows_from found slots start (suc len) ≡ rows_from found slots start len ++ shown_row (key_at found (start + len)) (start + len) slots ∷ []
  rows-more len =
      ap (rows_from found slots start) (sym (add-one len))
      ∙ map-range_with_len_more (λ (group : ℕ). shown_row (key_at found group) group slots) start len (start + len) refl

  pub rows-from_next : (len : ℕ) → start + len ≤ length found → (done : List Row) → done ≡ shown_rows keys aggregates of (take start found) → done ++ rows_from found slots start len ≡ shown_rows keys aggregates of (take (start + len) found)
  rows-from_next zero le done so_far = append-nil done ∙ so_far ∙ ap (λ (n : ℕ). shown_rows keys aggregates of (take n found)) {x = start} {y = start + 0} (omega arith)
  rows-from_next (suc len) le done so_far =
      let group = start + len in
      let lt : group < length found = omega (arith, le) in
      let row = shown_row (key_at found group) group slots in
      ap (λ (rs : List Row). done ++ rs) (rows-more len)
      ∙ sym (append_assoc done (rows_from found slots start len) (row ∷ []))
      ∙ rows-next keys aggregates of found slots slots_are group (key_at found group) lt (same-key group lt) (done ++ rows_from found slots start len) row (rows-from_next len (omega (arith, le)) done so_far) refl
      ∙ ap (λ (n : ℕ). shown_rows keys aggregates of (take n found)) {x = start + len + 1} {y = start + suc len} (omega arith)

  pub range-from_next : (len : ℕ) → start + len ≤ length found → AreShown keys aggregates of (take start found) → CanAllShow start len slots → AreShown keys aggregates of (take (start + len) found)
  range-from_next zero le so_far can = let same : start ≡ start + 0 = omega arith in subst (λ (n : ℕ). AreShown keys aggregates of (take n found)) same so_far
  range-from_next (suc len) le so_far can =
      let group = start + len in
      let lt : group < length found = omega (arith, le) in
      let before = range-from_next len (omega (arith, le)) so_far (λ g from to. can g from (omega (arith, to))) in
      let same : start + len + 1 ≡ start + suc len = omega arith in
      subst (λ (n : ℕ). AreShown keys aggregates of (take n found)) same
      (range-next keys aggregates of found slots slots_are group (key_at found group) lt (same-key group lt) before (can group (omega arith) (omega arith)))

  -- groups that cannot be shown are those of a query that cannot
  pub range-from_fails : (len : ℕ) → start + len ≤ length found → found ≡ group_keys keys of → (CanAllShow start len slots → ⊥) → SumsInRange keys aggregates (once_each of) → ⊥
  range-from_fails len le found_is cannot all =
      cannot (λ group from to.
      let lt : group < length found = omega (arith, le, to) in
      range-can keys aggregates of found slots slots_are group (key_at found group) lt (same-key group lt) found_is all)
