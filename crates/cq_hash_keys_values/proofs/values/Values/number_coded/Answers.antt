use Rattle.std.proofs.Common.{◌≡◌, ◌∙◌, ◌+◌, ◌<◌, cond, false, length, get_or, refl, arith, rules}
use Rattle.std.proofs.lemmas.Grind.{common_steps}
use Rattle.cq_vectors_stored.specs.Offsets.{offsets_in}
use Rattle.cq_hash_keys_values.proofs.CodedKeys.{coded-end, coded-next, none-noted}
use Rattle.cq_hash_keys_values.proofs.values.Values.number_coded.Goals as goal

pub loop-place-init : goal.loop-place-init
loop-place-init c = record {
  within = omega arith;
  same = c.requires.same;
  met = refl;
  told = λ i lt. absurd (omega (arith, lt));
  noted = none-noted c.args.entries.now c.args.self.now 1025;
  slots = first_of (search rules, grind (arith, common_steps));
}

pub loop-place-preserved : goal.loop-place-preserved
loop-place-preserved c =
    let codes = offsets_in c.args.codes.now in
    let flags = c.args.nulls.now in
    let i = c.loop-place.place in
    let lt : i < length codes = first_of (search rules, search (rules, arith)) in
    let slot_is : c.slot_of-slot.result ≡ cond (get_or flags i false) 0 (get_or codes i 0 + 1) = search rules in
    let end = c.noted_run-place.ensures.within in
    let noted = c.in_ok-numbers.ensures.noted in
    let r = coded-next c.args.entries.now c.args.self.now c.loop-place.self c.note.new.self c.note.new.slots codes flags i c.noted_run-place.result c.slot_of-slot.result c.in_ok-numbers.field-0 c.loop-place.numbers c.noted_run-place.new.numbers
    lt c.requires.texts.same c.loop-place.invariant.same slot_is c.loop-place.invariant.met c.loop-place.invariant.told c.in_ok-numbers.ensures.met c.in_ok-numbers.ensures.number noted c.noted_run-place.ensures.from end c.noted_run-place.ensures.run in
    record { within = end; same = r.1.1; met = r.0; told = r.1.0; noted = noted; slots = c.note.ensures.same ∙ c.loop-place.invariant.slots }

pub returns-clause-values : goal.returns-clause-values
returns-clause-values c =
    let end : c.loop-place.place ≡ length (offsets_in c.args.codes.now) = let within = c.loop-place.invariant.within in first_of (search rules, search (rules, arith, within)) in
    (coded-end c.args.entries.now c.args.self.now c.loop-place.self (offsets_in c.args.codes.now) c.args.nulls.now c.loop-place.place c.loop-place.numbers c.requires.texts.same c.loop-place.invariant.same end c.loop-place.invariant.met c.loop-place.invariant.told).0

pub returns-clause-numbers : goal.returns-clause-numbers
returns-clause-numbers c =
    let end : c.loop-place.place ≡ length (offsets_in c.args.codes.now) = let within = c.loop-place.invariant.within in first_of (search rules, search (rules, arith, within)) in
    (coded-end c.args.entries.now c.args.self.now c.loop-place.self (offsets_in c.args.codes.now) c.args.nulls.now c.loop-place.place c.loop-place.numbers c.requires.texts.same c.loop-place.invariant.same end c.loop-place.invariant.met c.loop-place.invariant.told).1
