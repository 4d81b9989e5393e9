use Rattle.std.proofs.Common.{◌≡◌, ◌∙◌, ap, List, ◌<◌, ℤ, pos, map, length, get_or, set, to_z, of_z, refl, sym, subst, arith, rules}
use Rattle.std.specs.Int.{w64}
use Rattle.std.proofs.lemmas.Int.{ints, to_z-of_z}
use Rattle.std.proofs.lemmas.List.{get_or-map, length-map}
use Rattle.indexmap.specs.IndexSet.{insert_key}
use Rattle.cq_values.specs.declared.value.Value.{Value}
use Rattle.cq_values.specs.declared.value.Value.TheVariants.{Null}
use Rattle.cq_hash_keys_values.specs.Met.{IsNumberIn}
use Rattle.cq_hash_keys_values.specs.Values.{same_value}
use Rattle.cq_hash_keys_values.specs.Whole.{whole_value}
use Rattle.cq_hash_keys_values.proofs.Runs.{all-are_told, one-and-run}
use Rattle.cq_hash_keys_values.proofs.ValueKeys.{value-itself, value-same}
use Rattle.cq_hash_keys_values.proofs.values.Values.number_whole.Goals as goal

pub loop-place-preserved : goal.loop-place-preserved
loop-place-preserved c =
    let values = c.args.values.now in
    let of = whole_value c.args.kind in
    let i = c.loop-place.place in
    let n = get_or values i (pos 0) in
    let xs = map of values in
    let number = c.in_ok-numbers.field-0 in
    let lt : i < length values = c.loop-place-test.true in
    let same = length-map values of in
    let long : i < length xs = omega (arith, lt, same) in
    let kept : to_z w64 (of_z w64 n) ≡ n = search (arith, ints, to_z-of_z) in
    let is : of n ≡ get_or xs i Null = sym (get_or-map of values i (pos 0) Null lt) in
    let made : c.whole.new.self ≡ insert_key same_value c.loop-place.self (of n) =
    subst (λ (m : ℤ). c.whole.new.self ≡ insert_key same_value c.loop-place.self (of m)) kept c.in_ok-numbers.ensures.met in
    let told : IsNumberIn Null c.whole.new.self (of n) number =
    first_of (search rules, search (arith, ints, to_z-of_z, c.in_ok-numbers.ensures.number)) in
    let end = c.run-place.ensures.within in
    let r = one-and-run same_value Null value-same value-itself c.args.self.now c.loop-place.self c.whole.new.self xs i c.run-place.result
    c.loop-place.numbers (set c.loop-place.numbers i number) c.run-place.new.numbers (of n) number long is (c.loop-place.invariant.same ∙ sym same)
    c.loop-place.invariant.met c.loop-place.invariant.told made told refl c.run-place.ensures.from (omega (arith, end, same)) c.run-place.ensures.run in
    record { within = end; same = r.1.1 ∙ same; met = r.0; told = r.1.0 }

pub whole-requires : goal.whole-requires
whole-requires c =
    let values = c.args.values.now in
    let of = whole_value c.args.kind in
    let i = c.loop-place.place in
    let n = get_or values i (pos 0) in
    let lt : i < length values = c.loop-place-test.true in
    let kept : to_z w64 (of_z w64 n) ≡ n = search (arith, ints, to_z-of_z) in
    ap (λ (vs : List Value). get_or vs i Null) c.requires.column ∙ get_or-map of values i (pos 0) Null lt ∙ sym (ap of kept)

pub returns-clause-numbers : goal.returns-clause-numbers
returns-clause-numbers c =
    let values = c.args.values.now in
    let of = whole_value c.args.kind in
    let same = length-map values of in
    let within = c.loop-place.invariant.within in
    let past = c.loop-place-test.false in
    all-are_told Null c.loop-place.self (map of values) c.loop-place.place c.loop-place.numbers (c.loop-place.invariant.same ∙ sym same)
    (omega (arith, within, past, same)) c.loop-place.invariant.told
