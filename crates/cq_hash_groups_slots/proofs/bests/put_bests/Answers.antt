use Rattle.std.proofs.Common.{◌≡◌, List, arith, sym, ◌∙◌, ap, to_z, of_z}
use Rattle.std.specs.Int.{w64}
use Rattle.std.proofs.lemmas.Int.{ints, to_z-of_z}
use Rattle.cq_values.specs.declared.value.Value.{Value}
use Rattle.cq_values.specs.declared.value.Value.TheVariants.{Null}
use Rattle.cq_vectors.specs.Form.{values_in}
use Rattle.cq_vectors_stored.specs.Offsets.{offsets_in}
use Rattle.cq_hash_groups_sums.specs.Puts.{put_all}
use Rattle.cq_hash_groups_slots.specs.Puts.{put_best}
use Rattle.cq_hash_groups_sums.proofs.Numbered.{narrow-read}
use Rattle.cq_hash_groups_slots.proofs.bests.put_bests.Goals as goal

pub returns-in-Narrow : goal.returns-in-Narrow
returns-in-Narrow c =
    let base = c.parts-base.result.0 in
    let kept : to_z w64 (of_z w64 base) ≡ base = search (arith, ints, to_z-of_z) in
    let whole = narrow-read _ base (offsets_in c.parts-base.result.1) c.nulls.result.now c.args.values.now c.in-Narrow.column kept (sym c.form.ensures.values ∙ ap values_in c.in-Narrow.is) c.parts-base.ensures.whole c.nulls.ensures in
    c.put_numbers.ensures ∙ ap (λ (vs : List Value). put_all (put_best c.args.which) Null c.args.numbers.now vs c.args.bests.now) whole
