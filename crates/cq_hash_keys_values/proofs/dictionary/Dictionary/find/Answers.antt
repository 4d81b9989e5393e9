use Rattle.std.proofs.Common.{◌≡◌, ◌∙◌, ◌<◌, ◌+◌, ℤ, pos, map, length, get_or, sym, subst, to_z, of_z, arith, rules, refl}
use Rattle.std.specs.Int.{w64}
use Rattle.std.proofs.lemmas.Grind.{take-set_at}
use Rattle.std.proofs.lemmas.Int.{ints, to_z-of_z}
use Rattle.std.proofs.lemmas.List.{get_or-map, length-map, length-set}
use Rattle.cq_values.specs.declared.value.Value.TheVariants.{Null}
use Rattle.cq_hash_keys_values.specs.Dictionary.{number_in}
use Rattle.cq_hash_keys_values.specs.Whole.{whole_value}
use Rattle.cq_hash_keys_values.proofs.Meeting.{found-next}
use Rattle.cq_hash_keys_values.proofs.dictionary.Dictionary.find.Goals as goal

pub loop-place-preserved : goal.loop-place-preserved
loop-place-preserved c =
    let values = c.args.values.now in
    let of = whole_value c.args.kind in
    let i = c.loop-place.place in
    let n = get_or values i (pos 0) in
    let lt : i < length values = first_of (omega arith, search rules) in
    let same = c.loop-place.invariant.same in
    let there : i < length c.loop-place.found = omega (arith, lt, same) in
    let long : i < length (map of values) = omega (arith, lt, length-map values of) in
    let kept : to_z w64 (of_z w64 n) ≡ n = search (arith, ints, to_z-of_z) in
    let is : of n ≡ get_or (map of values) i Null = sym (get_or-map of values i (pos 0) Null lt) in
    let looked : c.coded.result ≡ number_in c.args.self.now (of n) = subst (λ (m : ℤ). c.coded.result ≡ number_in c.args.self.now (of m)) kept c.coded.ensures in
    record {
      same = length-set c.loop-place.found i c.coded.result ∙ same;
      found =
          take-set_at c.loop-place.found i (i + 1) c.coded.result refl there
          ∙ found-next (number_in c.args.self.now) (map of values) i (of n) Null _ c.coded.result long is looked c.loop-place.invariant.found;
    }
