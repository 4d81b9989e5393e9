use Rattle.std.proofs.Common.{◌≡◌, List, arith, sym, ◌∙◌, ap, subst, to_z, of_z}
use Rattle.std.specs.Int.{w64}
use Rattle.std.proofs.lemmas.Int.{ints, to_z-of_z}
use Rattle.cq_values.specs.declared.value.Value.{Value}
use Rattle.cq_vectors.specs.Form.{values_in}
use Rattle.cq_vectors_stored.specs.Offsets.{offsets_in}
use Rattle.cq_hash_groups_sums.specs.Puts.{PutFrom}
use Rattle.cq_hash_groups_sums.proofs.Numbered.{narrow-read}
use Rattle.cq_hash_groups_sums.proofs.small_sums.put_values.Goals as goal

pub returns-in-Narrow-clause-put : goal.returns-in-Narrow-clause-put
returns-in-Narrow-clause-put c =
    let base = c.parts-base.result.0 in
    let kept : to_z w64 (of_z w64 base) ≡ base = search (arith, ints, to_z-of_z) in
    let whole = narrow-read _ base (offsets_in c.parts-base.result.1) c.nulls.result.now c.args.values.now c.in-Narrow.column kept (sym c.form.ensures.values ∙ ap values_in c.in-Narrow.is) c.parts-base.ensures.whole c.nulls.ensures in
    subst (λ (vs : List Value). PutFrom 0 c.put_above.result c.args.numbers.now vs c.args.sums.now c.put_above.new.sums) whole c.put_above.ensures.put
