use Rattle.std.proofs.Common.{◌≡◌, ◌∙◌, ◌+◌, ◌++◌, ◌∷◌, ℕ, List, [], map, refl, sym, ap, ap₂, arith, rules}
use Rattle.std.proofs.lemmas.List.{map-append}
use Rattle.std.proofs.lemmas.List.FromFn.{map-range_with_len_more}
use Rattle.cq_values.specs.declared.value.Value.{Value}
use Rattle.cq_values.specs.Lent.{owned}
use Rattle.cq_hash_groups_slots.specs.Slots.{CanShow, shown_at}
use Rattle.cq_hash_groups.proofs.ColumnsShown.{for-next}
use Rattle.cq_hash_groups.proofs.told.Told.lend_from.Goals as goal

pub loop-place-preserved : goal.loop-place-preserved
loop-place-preserved c =
    let told = c.args.self.now in
    let start = c.args.start in
    let at = c.loop-place.place in
    let value = c.in-Ok.value in
    let appended : c.push_reserved.new.self.items ≡ c.loop-place.values.items ++ value ∷ [] = search rules in
    record {
      so_far =
          ap (map owned) appended ∙ map-append owned c.loop-place.values.items (value ∷ [])
          ∙ ap₂ (λ (vs : List Value) (v : Value). vs ++ v ∷ []) c.loop-place.invariant.so_far c.in-Ok.ensures.value
          ∙ sym (map-range_with_len_more (λ (group : ℕ). shown_at group told) start at (start + at) refl);
      range = for-next (λ (group : ℕ). CanShow group told) start at c.loop-place.invariant.range c.in-Ok.ensures.range;
      room = first_of (search rules, omega arith, grind arith);
    }

-- a group that cannot be shown is one of them
pub returns-in-Err-clause-fault : goal.returns-in-Err-clause-fault
returns-in-Err-clause-fault c = λ is can.
    c.in-Err.ensures.fault is (can (c.args.start + c.loop-place.place) (omega arith) (omega (arith, c.loop-place-test.true)))

pub returns-clause-range : goal.returns-clause-range
returns-clause-range c = λ group from to. c.loop-place.invariant.range group from (omega (arith, to, c.loop-place-test.false))
