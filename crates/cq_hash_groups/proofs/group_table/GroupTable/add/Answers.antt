use Rattle.std.proofs.Common.{◌≡◌, ℕ, ◌+◌, ◌++◌, List, drop, map, length, rules, arith, sym, ◌∙◌, ap, ap₂, subst}
use Rattle.std.proofs.lemmas.List.{length-append, length-map, take_at}
use Rattle.std.proofs.lemmas.Result.{IfOk-weaker}
use Rattle.cq_values.specs.Value.{Row}
use Rattle.cq_model_bags.specs.Bag.{firsts}
use Rattle.cq_hash_keys.specs.Keys.{key_at}
use Rattle.cq_model.specs.Group.{key_of}
use Rattle.cq_hash_groups_slots.specs.declared.slots.Slots.{Slots}
use Rattle.cq_hash_groups.specs.Groups.{AreAllWithin, Holds, StoredGroups, all_added, group_columns}
use Rattle.cq_hash_groups.specs.Lead.{first_sum}
use Rattle.cq_hash_groups_sums.specs.Puts.{AreNumbers}
use Rattle.cq_hash_groups.proofs.Holding.{slots-hold}
use Rattle.cq_hash_groups.proofs.KeysMet.{keys-append}
use Rattle.cq_hash_groups.proofs.group_table.GroupTable.add.Goals as goal

-- lists with one list of images are of one length
same-long : (f : ℕ → Row) (g : Row → Row) (numbers : List ℕ) (rows : List Row) → map f numbers ≡ map g rows → length numbers ≡ length rows
same-long f g numbers rows e = sym (length-map numbers f) ∙ ap length e ∙ length-map rows g

pub invariant_of-self-2 : goal.invariant_of-self-2
invariant_of-self-2 c =
    let new = c.add_all.new.slots in
    let count = c.self.inside.count in
    let columns = group_columns c.self.inside.keys.now in
    let long : length new ≡ c.self.inside.slots.len = first_of (search rules, omega arith, grind arith) in
    let written = take_at new (drop (length new) c.self.inside.slots.items) c.self.inside.slots.len long in
    let before : c.self.inside.slots.items ≡ c.deref_mut.result.now = first_of (search rules, grind arith) in
    let numbers : length c.deref.result.now ≡ c.len.result =
    ap length c.deref.ensures.value ∙ same-long (key_at c.number_rows.new.found.keys) (key_of columns) c.number_rows.new.numbers.items c.args.scan.now c.in_ok-number_rows.ensures.numbers ∙ sym c.len.ensures.len in
    record {
      width = c.number_rows.ensures.width ∙ c.self.invariant.width;
      few = c.in_ok-count.ensures.counted;
      within = subst (AreAllWithin c.in_ok-count.count) (sym written)
          (subst (λ (n : ℕ). AreAllWithin n new) (sym c.in_ok-count.ensures.wider) (subst (λ (n : ℕ). AreAllWithin (count + n) new) numbers (c.add_all.ensures.within count (subst (AreAllWithin count) before c.self.invariant.within))));
    }

pub returns-clause-holds : goal.returns-clause-holds
returns-clause-holds c =
    let new = c.add_all.new.slots in
    let keys = c.self.inside.keys.now in
    let columns = group_columns keys in
    let asked = c.self.inside.aggregates.now in
    let scan = c.args.scan.now in
    let next = c.number_rows.new.found.keys in
    let numbers = c.deref.result.now in
    let long : length new ≡ c.self.inside.slots.len = first_of (search rules, omega arith, grind arith) in
    let written = take_at new (drop (length new) c.self.inside.slots.items) c.self.inside.slots.len long in
    let before : c.self.inside.slots.items ≡ c.deref_mut.result.now = first_of (search rules, grind arith) in
    let are : map (key_at next) numbers ≡ map (key_of columns) scan =
    subst (λ (ns : List ℕ). map (key_at next) ns ≡ map (key_of columns) scan) (sym c.deref.ensures.value) c.in_ok-number_rows.ensures.numbers in
    let there : AreNumbers (length next) numbers = subst (AreNumbers (length next)) (sym c.deref.ensures.value) c.in_ok-number_rows.ensures.within in
    IfOk-weaker c.add_all.result _ _
    (λ x e. λ rows held.
    let h = subst (λ (u : StoredGroups). Holds u rows) (sym c.self.view_is) held in
    record {
      count = omega (arith, c.in_ok-count.ensures.wider, h.count, length-append rows scan, c.len.ensures.len);
      found = c.in_ok-number_rows.ensures.keys ∙ ap (λ (fs : List Row). firsts (fs ++ map (key_of columns) scan)) h.found ∙ keys-append keys rows scan;
      slots = written ∙ e ∙ ap₂ (λ (n : ℕ) (ss : List Slots). all_added (first_sum asked) n numbers scan asked ss) c.len-groups.ensures (sym before ∙ h.slots)
          ∙ slots-hold keys asked rows scan c.self.inside.found.keys next numbers h.found c.in_ok-number_rows.ensures.keys are there;
    })
    c.add_all.ensures.ok
