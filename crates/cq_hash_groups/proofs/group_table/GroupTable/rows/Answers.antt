use Rattle.std.proofs.Common.{◌≡◌, ℕ, ◌<◌, ◌≤◌, ◌+◌, ◌*◌, ◌/◌, ◌-◌, ◌^◌, ◌++◌, ◌∷◌, List, map, take, length, get_or, [], rules, arith, refl, sym, ◌∙◌, ap, subst}
use Rattle.std.proofs.lemmas.List.{get_or_default, take_all}
use Rattle.cq_values.specs.Value.{Row}
use Rattle.cq_model_bags.specs.Bag.{once_each}
use Rattle.cq_model.specs.Group.{SumsInRange}
use Rattle.cq_model.specs.declared.fault.ShowFault.TheVariants.{SumOutOfRange}
use Rattle.cq_hash_groups.specs.Groups.{AreAllWithin, Holds, StoredGroups, group_columns, shown_row, slots_at}
use Rattle.cq_hash_groups.specs.Lead.{lead_at, told}
use Rattle.cq_hash_groups.specs.Shown.{ForGroups, rows_from}
use Rattle.cq_hash_keys.specs.Keys.{HasValues, key_at}
use Rattle.cq_hash_groups.proofs.Blocks.{range-from_fails, range-from_next, rows-from_next}
use Rattle.cq_hash_groups_slots.specs.Slots.{no_slots}
use Rattle.cq_hash_groups.proofs.ToldSlots.{told-are}
use Rattle.cq_hash_groups.proofs.Turns.{within-more}
use Rattle.cq_hash_groups_slots.specs.declared.slots.Slots.{Slots}
use Rattle.cq_writestore_rows.specs.Filling.{IsReadyFor}
use Rattle.cq_hash_groups.proofs.Holding.{range-fails, range-next, rows-next}
use Rattle.cq_hash_groups.proofs.Showing.{AreShown, ranges-are_grouped, rows-are_grouped, shown_rows}
use Rattle.cq_hash_groups.proofs.Widths.{wide-at}
use Rattle.cq_hash_groups.proofs.group_table.GroupTable.rows.Goals as goal

-- what is told is so of the table that is seen
told-of : (t u : StoredGroups) (slots : List Slots) → slots ≡ u.slots → u ≡ t → (all : List Slots) → all ≡ told (lead_at u.aggregates slots) u.aggregates slots
    → (of : List Row) → Holds t of → all ≡ map (slots_at (group_columns t.keys) of t.found) t.aggregates
told-of t u slots are is all all_are of h =
    all_are ∙ ap (λ (ss : List Slots). told (lead_at u.aggregates ss) u.aggregates ss) are ∙ ap (λ (v : StoredGroups). told (lead_at v.aggregates v.slots) v.aggregates v.slots) is
    ∙ told-are (group_columns t.keys) of t.found t.aggregates t.slots h.slots

-- no count is past 64 bits
pub told_slots-requires : goal.told_slots-requires
told_slots-requires c =
    subst (AreAllWithin (2 ^ 64 - 1)) (sym c.deref.ensures.value)
    (λ place. within-more c.self.inside.count (2 ^ 64 - 1) (get_or c.self.inside.slots.items place no_slots) (omega (arith, c.self.invariant.few)) (c.self.invariant.within place))

pub returns-in_err-put_rows-clause-fault : goal.returns-in_err-put_rows-clause-fault
returns-in_err-put_rows-clause-fault c = λ of h.
    let t = c.args.self.now in
    let start = 1024 * c.loop-block.block in
    let slots = c.deref-in-loop-block.result.now in
    let found_is = ap (λ (u : StoredGroups). u.found) c.self.view_is in
    let le : start + 1024 ≤ length t.found = omega (arith, c.loop-block-test.true, c.len-groups.ensures, ap length found_is) in
    let slots_are : slots ≡ map (slots_at (group_columns t.keys) of t.found) t.aggregates =
    c.deref-in-loop-block.ensures.value ∙ told-of t _ c.deref.result.now c.deref.ensures.value c.self.view_is c.in_ok-told.told.items c.in_ok-told.ensures of h in
    let fault : c.in_err-put_rows.field-0.0 ≡ SumOutOfRange → SumsInRange t.keys t.aggregates (once_each of) → ⊥ =
    λ is all. range-from_fails t.keys t.aggregates of t.found slots slots_are start 1024 le h.found (λ can. c.in_err-put_rows.ensures.fault is can) all in
    search rules

pub put_rows-requires : goal.put_rows-requires
put_rows-requires c = record {
  groups = omega (arith, c.loop-block-test.true, c.len-groups.ensures);
  width = c.key_width-width.ensures ∙ sym c.self.invariant.width;
  whole = record { pieces = c.loop-block.block; count = c.loop-block.invariant.count; none = c.loop-block.invariant.ready.none };
}

pub loop-block-preserved : goal.loop-block-preserved
loop-block-preserved c =
    let t = c.args.self.now in
    let start = 1024 * c.loop-block.block in
    let width = c.key_width-width.result in
    let slots = c.deref-in-loop-block.result.now in
    let found_is = ap (λ (u : StoredGroups). u.found) c.self.view_is in
    let keys_are = ap (λ (u : StoredGroups). u.keys) c.self.view_is in
    let told_are : (of : List Row) → Holds t of → slots ≡ map (slots_at (group_columns t.keys) of t.found) t.aggregates =
    λ of h. c.deref-in-loop-block.ensures.value ∙ told-of t _ c.deref.result.now c.deref.ensures.value c.self.view_is c.in_ok-told.told.items c.in_ok-told.ensures of h in
    let le : start + 1024 ≤ length t.found = omega (arith, c.loop-block-test.true, c.len-groups.ensures, ap length found_is) in
    let on : start + 1024 ≡ 1024 * (c.loop-block.block + 1) = omega arith in
    let more = c.in_ok-put_rows.ensures.rows in
    record {
      ready = record { none = more.begun ∙ c.loop-block.invariant.ready.none; wide = more.wide ∙ c.loop-block.invariant.ready.wide };
      count = omega (arith, more.count, c.loop-block.invariant.count);
      rows = λ of h.
          let wide : ForGroups (λ group. HasValues width (key_at c.self.inside.found.keys group)) start 1024 =
          λ group from to.
          let lt : group < length t.found = omega (arith, to, le) in
          ap (λ (fs : List Row). length (get_or fs group [])) found_is ∙ wide-at t.keys of t.found group h.found lt ∙ sym (c.key_width-width.ensures ∙ ap (λ ks. length (group_columns ks)) keys_are) in
          more.rows wide
          ∙ ap (λ (fs : List Row). c.loop-block.filling.rows ++ rows_from fs slots start 1024) found_is
          ∙ rows-from_next t.keys t.aggregates of t.found slots (told_are of h) start 1024 le c.loop-block.filling.rows (c.loop-block.invariant.rows of h)
          ∙ ap (λ (n : ℕ). shown_rows t.keys t.aggregates of (take n t.found)) on;
      range = λ of h.
          subst (λ (n : ℕ). AreShown t.keys t.aggregates of (take n t.found)) on
          (range-from_next t.keys t.aggregates of t.found slots (told_are of h) start 1024 le (c.loop-block.invariant.range of h) c.in_ok-put_rows.ensures.range);
    }

-- behind the blocks the groups go on one by one
pub loop-group-init : goal.loop-group-init
loop-group-init c =
    let t = c.args.self.now in
    let all : c.loop-block.block ≡ c.len-groups.result / 1024 = omega (arith, c.loop-block.auto.block-end, c.loop-block-test.false) in
    record {
      ready = c.loop-block.invariant.ready;
      rows = λ of h. c.loop-block.invariant.rows of h ∙ ap (λ (n : ℕ). shown_rows t.keys t.aggregates of (take (1024 * n) t.found)) all;
      range = λ of h. subst (λ (n : ℕ). AreShown t.keys t.aggregates of (take (1024 * n) t.found)) all (c.loop-block.invariant.range of h);
    }

pub returns-in_err-put_row-clause-fault : goal.returns-in_err-put_row-clause-fault
returns-in_err-put_row-clause-fault c = λ of h.
    let t = c.args.self.now in
    let group = c.loop-group.group in
    let found_is = ap (λ (u : StoredGroups). u.found) c.self.view_is in
    let lt : group < length t.found = omega (arith, c.loop-group-test.true, c.len-groups.ensures, ap length found_is) in
    let slots_are : c.deref-in-loop-group.result.now ≡ map (slots_at (group_columns t.keys) of t.found) t.aggregates =
    c.deref-in-loop-group.ensures.value ∙ told-of t _ c.deref.result.now c.deref.ensures.value c.self.view_is c.in_ok-told.told.items c.in_ok-told.ensures of h in
    let key = get_or t.found group [] in
    let fault : c.in_err-put_row.field-0.0 ≡ SumOutOfRange → SumsInRange t.keys t.aggregates (once_each of) → ⊥ =
    λ is all. range-fails t.keys t.aggregates of t.found c.deref-in-loop-group.result.now slots_are group key lt (get_or_default t.found group [] key lt) h.found (λ can. c.in_err-put_row.ensures.fault is can) all in
    search rules

pub loop-group-preserved : goal.loop-group-preserved
loop-group-preserved c =
    let t = c.args.self.now in
    let group = c.loop-group.group in
    let width = c.key_width-width.result in
    let slots = c.deref-in-loop-group.result.now in
    let found_is = ap (λ (u : StoredGroups). u.found) c.self.view_is in
    let keys_are = ap (λ (u : StoredGroups). u.keys) c.self.view_is in
    let slots_is : slots ≡ c.in_ok-told.told.items = c.deref-in-loop-group.ensures.value in
    let told_are : (of : List Row) → Holds t of → slots ≡ map (slots_at (group_columns t.keys) of t.found) t.aggregates =
    λ of h. slots_is ∙ told-of t _ c.deref.result.now c.deref.ensures.value c.self.view_is c.in_ok-told.told.items c.in_ok-told.ensures of h in
    let lt : group < length t.found = omega (arith, c.loop-group-test.true, c.len-groups.ensures, ap length found_is) in
    let key = get_or t.found group [] in
    let same : get_or c.self.inside.found.keys group [] ≡ key = ap (λ (fs : List Row). get_or fs group []) found_is in
    record {
      ready = subst (λ (ss : List Slots). IsReadyFor (width + length ss) c.put_row.new.filling) slots_is c.in_ok-put_row.ensures.ready;
      rows = λ of h.
          let wide : length (get_or c.self.inside.found.keys group []) ≡ width = rw same (wide-at t.keys of t.found group h.found lt ∙ sym (c.key_width-width.ensures ∙ ap (λ ks. length (group_columns ks)) keys_are)) in
          c.in_ok-put_row.ensures.row wide
          ∙ ap (λ (k : Row). c.loop-group.filling.rows ++ shown_row k group slots ∷ []) same
          ∙ rows-next t.keys t.aggregates of t.found slots (told_are of h) group key lt (get_or_default t.found group [] key lt) c.loop-group.filling.rows (shown_row key group slots) (c.loop-group.invariant.rows of h) refl;
      range = λ of h.
          range-next t.keys t.aggregates of t.found slots (told_are of h) group key lt (get_or_default t.found group [] key lt) (c.loop-group.invariant.range of h) c.in_ok-put_row.ensures.range;
    }

pub returns-clause-ok : goal.returns-clause-ok
returns-clause-ok c =
    let t = c.args.self.now in
    let all : take c.loop-group.group t.found ≡ t.found =
    take_all c.loop-group.group t.found (omega (arith, c.loop-group-test.false, c.len-groups.ensures, ap (λ (u : StoredGroups). length u.found) c.self.view_is)) in
    λ of h. ap once_each (c.in_ok-finish.ensures ∙ c.loop-group.invariant.rows of h ∙ ap (shown_rows t.keys t.aggregates of) (all ∙ h.found)) ∙ rows-are_grouped t.keys t.aggregates of

pub returns-clause-range : goal.returns-clause-range
returns-clause-range c =
    let t = c.args.self.now in
    let all : take c.loop-group.group t.found ≡ t.found =
    take_all c.loop-group.group t.found (omega (arith, c.loop-group-test.false, c.len-groups.ensures, ap (λ (u : StoredGroups). length u.found) c.self.view_is)) in
    λ of h. ranges-are_grouped t.keys t.aggregates of (subst (AreShown t.keys t.aggregates of) (all ∙ h.found) (c.loop-group.invariant.range of h))

-- what the table counts is the number of rows
pub returns-clause-few : goal.returns-clause-few
returns-clause-few c = λ of h. omega (arith, h.count, c.self.invariant.few, ap (λ (u : StoredGroups). u.count) c.self.view_is)
