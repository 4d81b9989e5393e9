use Rattle.std.proofs.Common.{List, ap, arith, pos, rules, subst, sym, take, w64, ◌+◌, ◌∙◌, ℤ}
use mir.Val.{SFits, of_z, to_z}
use Rattle.std.specs.Simd.Lanes.{zip2}
use Rattle.std.proofs.lemmas.Grind.{common_steps}
use Rattle.std.proofs.lemmas.Int.{to_z-of_z}
use Rattle.std.proofs.lemmas.List.{get_or_read}
use Rattle.cq_encodings_plain.specs.Kind.{datum}
use Rattle.cq_encodings_plain.specs.Nulls.{NothingWhere}
use Rattle.cq_encodings_plain.specs.Parts.{nulls_of}
use Rattle.cq_encodings_plain.proofs.Zipped.{nothing_more, parts_are, zipped_more}
use Rattle.cq_values.specs.Lent.{owned}
use Rattle.cq_values.specs.Value.{is_null}
use Rattle.cq_values.specs.declared.lent.Lent.TheVariants as lent
use Rattle.cq_encodings_plain.proofs.plain_numbers.numbers_of.Goals as goal

pub loop-value-preserved : goal.loop-value-preserved
loop-value-preserved c =
    let i = c.loop-value.value-index in
    let flags = nulls_of (take (i + 1) c.args.values.now) in
    let fits : SFits w64 c.in-Some.number = search rules in
    let there = get_or_read c.args.values.now i c.value-item.result c.loop-value-test.true c.value-item.is lent.Null in
    record {
      same = ap (λ (zs : List ℤ). zip2 (datum c.args.kind) zs flags) c.push_reserved.ensures.items
          ∙ zipped_more (datum c.args.kind) c.loop-value.numbers.items (to_z w64 (of_z w64 c.in-Some.number)) c.args.values.now i c.value-item.result c.loop-value-test.true there
          c.loop-value.invariant.long (ap (λ (z : ℤ). datum c.args.kind z (is_null (owned c.value-item.result))) (to_z-of_z w64 c.in-Some.number fits) ∙ c.in-Some.ensures.same) c.loop-value.invariant.same;
      clear = subst (λ (zs : List ℤ). NothingWhere (pos 0) flags zs) (sym c.push_reserved.ensures.items)
          (nothing_more (pos 0) c.loop-value.numbers.items (to_z w64 (of_z w64 c.in-Some.number)) c.args.values.now i c.value-item.result c.loop-value-test.true there
          c.loop-value.invariant.long (λ null. to_z-of_z w64 c.in-Some.number fits ∙ c.in-Some.ensures.any null) c.loop-value.invariant.clear);
      long = grind (arith, common_steps);
      room = grind (arith, common_steps);
    }

pub returns : goal.returns
returns c =
    parts_are (datum c.args.kind) (pos 0) c.loop-value.numbers.items c.args.values.now c.loop-value.value-index (omega (arith, c.loop-value-test.false, c.loop-value.auto.value-index-end))
    c.loop-value.invariant.long (omega (arith, c.loop-value-test.false, c.loop-value.auto.value-index-end)) c.loop-value.invariant.clear c.loop-value.invariant.same
