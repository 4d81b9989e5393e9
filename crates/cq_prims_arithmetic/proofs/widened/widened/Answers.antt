use Rattle.std.proofs.Common.{◌≡◌, ◌∙◌, ap, ap₂, arith, length, map, of_z, subst, sym, to_z, to_z-of_z, w64, Bool, List, ℤ}
use Rattle.std.proofs.lemmas.Int.{ints}
use lib.Lanes.{zip2}
use Rattle.cq_vectors_stored.specs.Columns.{ZeroWhere, number_unless}
use Rattle.cq_vectors_stored.specs.LentColumns.{number_above}
use Rattle.cq_vectors_stored.specs.Offsets.{offsets_in}
use Rattle.cq_prims_arithmetic.specs.Operation.{zero_if}
use Rattle.cq_prims_arithmetic.specs.Sides.{above}
use Rattle.cq_prims_arithmetic.proofs.ColumnLemmas.{fit_cleared, values_cleared}
use Rattle.cq_prims_arithmetic.proofs.WidenedLemmas.{cleared-long, cleared-zero, fit_above, flags-long, made-long, values_above}
use Rattle.cq_prims_arithmetic.proofs.widened.widened.Goals as goal

pub clear_nulls-requires : goal.clear_nulls-requires
clear_nulls-requires c = made-long _ (offsets_in c.parts-base.result.1) c.nulls-flags.result.now c.in_ok-values.ensures (flags-long _ c.nulls-flags.result.now c.args.narrow.now c.nulls-flags.ensures c.parts-base.ensures.long)

pub new-requires-clause-few : goal.new-requires-clause-few
new-requires-clause-few c =
    let flags = flags-long _ c.nulls-flags.result.now c.args.narrow.now c.nulls-flags.ensures c.parts-base.ensures.long in
    omega (arith, cleared-long _ (offsets_in c.parts-base.result.1) c.nulls-flags.result.now c.in_ok-values.ensures c.clear_nulls.ensures flags, flags, c.parts-base.ensures.long, c.parts-base.ensures.few)

pub new-requires-clause-same : goal.new-requires-clause-same
new-requires-clause-same c = ap length c.set_copy.ensures ∙ sym (cleared-long _ (offsets_in c.parts-base.result.1) c.nulls-flags.result.now c.in_ok-values.ensures c.clear_nulls.ensures (flags-long _ c.nulls-flags.result.now c.args.narrow.now c.nulls-flags.ensures c.parts-base.ensures.long))

pub new-requires-clause-zero : goal.new-requires-clause-zero
new-requires-clause-zero c =
    subst (λ (fs : List Bool). ZeroWhere fs c.clear_nulls.new.values.items) (sym c.set_copy.ensures)
    (cleared-zero _ (offsets_in c.parts-base.result.1) c.nulls-flags.result.now c.in_ok-values.ensures c.clear_nulls.ensures (flags-long _ c.nulls-flags.result.now c.args.narrow.now c.nulls-flags.ensures c.parts-base.ensures.long))

pub new-requires-clause-fit : goal.new-requires-clause-fit
new-requires-clause-fit c =
    let base = c.parts-base.result.0 in
    let offsets = offsets_in c.parts-base.result.1 in
    let kept : to_z w64 (of_z w64 base) ≡ base = search (arith, ints, to_z-of_z) in
    let made = c.in_ok-values.ensures ∙ ap (λ (b : ℤ). map (above b) offsets) kept in
    rw (c.clear_nulls.ensures, made) (fit_cleared (map (above base) offsets) c.nulls-flags.result.now (fit_above base offsets c.parts-base.ensures.fit))

pub returns : goal.returns
returns c =
    let base = c.parts-base.result.0 in
    let flags = c.nulls-flags.result.now in
    let offsets = offsets_in c.parts-base.result.1 in
    let kept : to_z w64 (of_z w64 base) ≡ base = search (arith, ints, to_z-of_z) in
    let cleared = c.clear_nulls.ensures ∙ ap (λ (l : List ℤ). zip2 zero_if l flags) (c.in_ok-values.ensures ∙ ap (λ (b : ℤ). map (above b) offsets) kept) in
    c.new.ensures ∙ ap₂ (zip2 number_unless) cleared c.set_copy.ensures ∙ values_cleared (map (above base) offsets) flags ∙ values_above base offsets flags
    ∙ ap (zip2 (number_above base) offsets) c.nulls-flags.ensures ∙ sym c.parts-base.ensures.whole
