use Rattle.std.proofs.Common.{◌≡◌, ◌∙◌, ap, arith, false, get_or, map, of_z, sym, to_z, w64, Bool, List, ℕ, ℤ}
use Rattle.std.proofs.lemmas.Int.{ints, to_z-of_z}
use Rattle.std.proofs.lemmas.List.{length-map}
use Rattle.cq_model.specs.Condition.{is_null}
use Rattle.cq_vectors_stored.specs.Offsets.{offsets_in}
use Rattle.cq_hash_keys_values.proofs.WholeKeys.{above, stands_above}
use Rattle.cq_hash_keys_values.proofs.widened.widen_numbers.Goals as goal

pub returns-clause-whole : goal.returns-clause-whole
returns-clause-whole c =
    let values = c.args.numbers.now in
    let base = c.parts-base.result.0 in
    let offsets = offsets_in c.parts-base.result.1 in
    let kept : to_z w64 (of_z w64 base) ≡ base = search (arith, ints, to_z-of_z) in
    let put = c.put_above.ensures.put ∙ ap (λ (b : ℤ). map (above b) offsets) kept in
    let clear : (k : ℕ) → get_or (map is_null values) k false ≡ false =
    λ k. sym (ap (λ (fs : List Bool). get_or fs k false) c.nulls.ensures) ∙ c.if-not-is_clear.ensures k in
    stands_above base offsets (map is_null values) values c.put_above.new.to c.parts-base.ensures.long
    (length-map values is_null ∙ sym c.parts-base.ensures.long) clear put c.parts-base.ensures.whole
