use Rattle.std.proofs.Common.{◌≡◌, ◌∙◌, ◌<◌, ◌≤◌, ◌∷◌, ◌++◌, [], Bool, List, None, false, ap, length, get_or, map, arith, rules}
use Rattle.cq_values.specs.declared.value.Value.{Value}
use Rattle.cq_values.specs.declared.value.Value.TheVariants.{Null}
use Rattle.cq_model.specs.Condition.{is_null}
use Rattle.cq_vectors_stored.specs.Offsets.{offsets_in}
use Rattle.cq_hash_keys_values.specs.Coded.{slot_value}
use Rattle.cq_hash_keys_values.specs.Values.{place_in}
use Rattle.cq_hash_keys_values.proofs.CodedKeys.{read-slot}
use Rattle.cq_hash_keys_values.proofs.Meeting.{found-next}
use Rattle.cq_hash_keys_values.proofs.values.Values.find_coded.Goals as goal

pub loop-place-preserved : goal.loop-place-preserved
loop-place-preserved c =
    let column = c.args.column.now in
    let texts = c.args.texts.now in
    let i = c.loop-place.place in
    let entries = c.parts.result.0.now in
    let codes = offsets_in c.parts.result.1 in
    let slot = c.slot_of-slot.result in
    let v = slot_value entries slot in
    let long = c.parts.ensures.long in
    let same : length texts ≡ length column = ap (λ (vs : List Value). length vs) c.requires in
    let within : i < length texts = first_of (omega (arith, c.loop-place-test.true, c.len-place-end.ensures, long), search (rules, arith, long)) in
    let lt : i < length column = omega (arith, within, same) in
    let flag : c.get.result ≡ get_or (map is_null texts) i false = c.get.ensures ∙ ap (λ (fs : List Bool). get_or fs i false) c.nulls-nulls.ensures in
    let is : v ≡ get_or column i Null =
    read-slot entries texts codes i slot c.at.result c.get.result c.parts.ensures.whole long within flag c.at.ensures c.slot_of-slot.ensures
    ∙ ap (λ (vs : List Value). get_or vs i Null) c.requires in
    let known : slot ≤ length entries = first_of (search rules, search (rules, arith, c.parts.ensures.known)) in
    let found = get_or c.find_slots.new.found slot None in
    let looked : found ≡ place_in c.args.self.now v = c.find_slots.ensures.looked slot known in
    let appended : c.push_reserved.new.self.items ≡ c.loop-place.numbers.items ++ found ∷ [] = search rules in
    record {
      found = appended ∙ found-next (place_in c.args.self.now) column i v Null c.loop-place.numbers.items found lt is looked c.loop-place.invariant.found;
      room = first_of (search rules, omega arith, grind arith, omega (arith, lt, c.push_reserved.ensures.len, c.push_reserved.ensures.capacity, c.loop-place.invariant.room));
    }
