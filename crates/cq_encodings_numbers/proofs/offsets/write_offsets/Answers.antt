use Rattle.std.proofs.Common.{List, [], ◌∷◌, ap, arith, pos, rules, subst, sym, take, w64, ◌+ℤ◌, ◌+◌, ◌∙◌, ℕ, ℤ}
use mir.Val.{SFits, of_z, to_z}
use Rattle.std.specs.Simd.Lanes.{zip2}
use Rattle.std.proofs.lemmas.Bool.{OnTrue_at}
use Rattle.std.proofs.lemmas.Grind.{common_steps}
use Rattle.std.proofs.lemmas.Int.{to_z-of_z}
use Rattle.std.proofs.lemmas.List.{get_or_read, length-map, map-append}
use Rattle.cq_encodings_plain.specs.Kind.{IsOf, datum}
use Rattle.cq_encodings_plain.specs.Nulls.{NothingWhere}
use Rattle.cq_encodings_plain.specs.Parts.{nulls_of}
use Rattle.cq_encodings_numbers.specs.Packed.{FitAbove, above}
use Rattle.cq_encodings_plain.proofs.Clear.{none_more}
use Rattle.cq_encodings_plain.proofs.Zipped.{facts_more, nothing_more, zipped_more}
use Rattle.cq_values.specs.declared.lent.Lent.TheVariants as lent
use Rattle.cq_encodings_numbers.proofs.Above.{either_clear, offsets_are}
use Rattle.cq_encodings_numbers.proofs.offsets.write_offsets.Goals as goal

pub loop-value-preserved : goal.loop-value-preserved
loop-value-preserved g c =
    let i = c.loop-value.value-index in
    let flags = nulls_of (take (i + 1) c.args.values.now) in
    let least : ℤ = to_z w64 (of_z w64 c.args.least) in
    let f = λ (offset : ℕ). least +ℤ pos offset in
    let old = g.W.FixedWidth.numbers c.loop-value.to in
    let offset = c.in_ok-offset.offset in
    let is = c.in_ok-offset.ensures in
    let pushed = OnTrue_at c.if-not-push_number.false c.push_number.ensures.pushed in
    let there = get_or_read c.args.values.now i c.value-item.result c.loop-value-test.true c.value-item.is lent.Null in
    record {
      same = ap (λ (ns : List ℕ). zip2 (datum c.args.kind) (above least ns) flags) pushed
          ∙ ap (λ (zs : List ℤ). zip2 (datum c.args.kind) zs flags) (map-append f old (offset ∷ []))
          ∙ zipped_more (datum c.args.kind) (above least old) (f offset) c.args.values.now i c.value-item.result c.loop-value-test.true there
          (length-map old f ∙ c.loop-value.invariant.long) is.same c.loop-value.invariant.same;
      clear = subst (λ (ns : List ℕ). NothingWhere 0 flags ns) (sym pushed)
          (nothing_more 0 old offset c.args.values.now i c.value-item.result c.loop-value-test.true there
          c.loop-value.invariant.long is.null c.loop-value.invariant.clear);
      fit = subst (λ (ns : List ℕ). FitAbove c.args.kind least ns) (sym pushed)
          (facts_more (λ (offset : ℕ). IsOf c.args.kind (least +ℤ pos offset)) 0 old offset is.fit c.loop-value.invariant.fit);
      none = λ clear.
          let both = either_clear c.loop-value.any_null c.is_null-any_null.result clear in
          none_more c.args.values.now i c.value-item.result c.loop-value-test.true there (sym c.is_null-any_null.ensures ∙ both.1) (c.loop-value.invariant.none both.0);
      long = grind (arith, common_steps);
      room = omega (arith, c.push_number.ensures.room, c.loop-value.invariant.room);
    }

pub returns : goal.returns
returns g c =
    let fits : SFits w64 c.args.least = search rules in
    offsets_are c.args.kind c.args.least (to_z w64 (of_z w64 c.args.least)) (to_z-of_z w64 c.args.least fits) (g.W.FixedWidth.numbers c.loop-value.to) c.args.values.now c.loop-value.value-index c.loop-value.any_null
    (omega (arith, c.loop-value-test.false, c.loop-value.auto.value-index-end)) (omega (arith, c.loop-value-test.false, c.loop-value.auto.value-index-end))
    c.loop-value.invariant.long c.loop-value.invariant.clear c.loop-value.invariant.fit c.loop-value.invariant.same c.loop-value.invariant.none
