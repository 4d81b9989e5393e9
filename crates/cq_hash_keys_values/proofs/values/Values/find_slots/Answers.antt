use Rattle.std.proofs.Common.{◌≡◌, ◌∙◌, ◌<◌, ℕ, None, length, get_or, set, sym, ap, arith, rules}
use Rattle.std.proofs.lemmas.List.{get_or-set_other, get_or-set_same, length-set}
use Rattle.cq_hash_keys_values.specs.Coded.{slot_value}
use Rattle.cq_hash_keys_values.specs.Values.{place_in}
use Rattle.cq_hash_keys_values.proofs.CodedKeys.{by-place}
use Rattle.cq_hash_keys_values.proofs.values.Values.find_slots.Goals as goal

pub loop-slot-preserved : goal.loop-slot-preserved
loop-slot-preserved c =
    let entries = c.args.entries.now in
    let met = c.args.self.now in
    let found = c.loop-slot.found in
    let slot = c.loop-slot.slot in
    let value = c.place.result in
    let there : slot < length found = first_of (search rules, omega arith, search (rules, arith)) in
    let looked : value ≡ place_in met (slot_value entries slot) = c.place.ensures ∙ ap (place_in met) c.lend_slot.ensures in
    record {
      same = length-set found slot value ∙ c.loop-slot.invariant.same;
      looked =
          λ k below. by-place k slot
          (λ apart. get_or-set_other found slot k value None (λ e. apart (omega (arith, e))) ∙ c.loop-slot.invariant.looked k (omega (arith, below, apart)))
          (λ here.
          ap (λ (j : ℕ). get_or (set found slot value) j None) here ∙ get_or-set_same found slot value None there
          ∙ looked ∙ ap (λ (j : ℕ). place_in met (slot_value entries j)) (sym here));
    }
