use Rattle.std.proofs.Common.{◌≡◌, FitsSigned, to_z, of_z, take, map, ◌<◌, length, sym, ap, ◌∙◌, arith, rules}
use Rattle.std.specs.Int.{w64}
use Rattle.std.proofs.lemmas.Int.{ints, to_z-of_z}
use Rattle.std.proofs.lemmas.List.{get_or-map, length-map, take_all}
use Rattle.cq_values.specs.declared.value.Value.TheVariants.{Null}
use Rattle.cq_model.specs.Eval.{extracted}
use Rattle.cq_model.specs.Group.{addend}
use Rattle.cq_prims_arithmetic.specs.Operation.{no_number}
use Rattle.cq_prims_arithmetic.proofs.PartLemmas.{parts_numbers}
use Rattle.cq_prims_arithmetic.proofs.ColumnLemmas.{fit_more}
use Rattle.cq_prims_arithmetic.proofs.PlaceLemmas.{all_made, push_more, zero_where}
use Rattle.cq_prims_arithmetic.proofs.parts.parts_by_places.Goals as goal

pub loop-i-preserved : goal.loop-i-preserved
loop-i-preserved c =
    let parts = map (extracted c.args.part) c.args.a.now in
    let long : length parts ≡ length c.args.a.now = length-map c.args.a.now (extracted c.args.part) in
    let there : c.loop-i.i < length c.args.a.now = omega (arith, c.loop-i-test.true, c.len-len.ensures.len) in
    let inside : c.loop-i.i < length parts = omega (arith, there, long) in
    let at = get_or-map (extracted c.args.part) c.args.a.now c.loop-i.i Null Null there ∙ ap (extracted c.args.part) (sym c.lend.ensures) in
    let kept : to_z w64 (of_z w64 c.part_at-number.result.0) ≡ c.part_at-number.result.0 = search (arith, ints, to_z-of_z) in
    let fits : FitsSigned w64 c.part_at-number.result.0 = search (arith, ints, rules) in (
      c.push_reserved.ensures.items ∙ push_more addend c.loop-i.values.items parts c.loop-i.i _ c.loop-i.invariant.0 inside (kept ∙ c.part_at-number.ensures.number ∙ ap addend (sym at)),
      c.push.ensures ∙ push_more no_number c.loop-i.nulls parts c.loop-i.i _ c.loop-i.invariant.1 inside (c.part_at-number.ensures.null ∙ ap no_number (sym at)),
      omega (arith, c.push_reserved.ensures.len, c.push_reserved.ensures.capacity, c.loop-i.invariant.2, there),
      rw (c.push_reserved.ensures.items, kept) (fit_more c.loop-i.values.items c.part_at-number.result.0 c.loop-i.invariant.3 fits),
    )

pub new-requires-clause-zero : goal.new-requires-clause-zero
new-requires-clause-zero c = rw (c.loop-i.invariant.0, c.loop-i.invariant.1) (zero_where (take c.loop-i.i (map (extracted c.args.part) c.args.a.now)))

pub returns : goal.returns
returns c =
    let parts = map (extracted c.args.part) c.args.a.now in
    let whole = take_all c.loop-i.i parts (omega (arith, length-map c.args.a.now (extracted c.args.part), c.loop-i-test.false, c.len-len.ensures.len)) in
    c.new-2.ensures ∙ c.new.ensures ∙ all_made parts c.loop-i.i c.loop-i.values.items c.loop-i.nulls whole c.loop-i.invariant.0 c.loop-i.invariant.1 (parts_numbers c.args.part c.args.a.now)
