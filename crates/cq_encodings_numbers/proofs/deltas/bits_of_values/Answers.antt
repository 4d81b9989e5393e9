use Rattle.std.proofs.Common.{List, ap, arith, map, subst, take, ◌+◌, ◌≡◌, ◌∙◌, ℕ}
use Rattle.std.specs.Simd.Lanes.{zip2}
use Rattle.std.proofs.lemmas.Grind.{common_steps}
use Rattle.std.proofs.lemmas.List.{get_or_read, take_all}
use Rattle.cq_values.specs.declared.lent.Lent.{Lent}
use Rattle.cq_values.specs.declared.lent.Lent.TheVariants as lent
use Rattle.cq_values.specs.Lent.{owned}
use Rattle.cq_encodings_numbers.specs.Deltas.{bits_datum}
use Rattle.cq_encodings_plain.specs.Parts.{nulls_of}
use Rattle.cq_encodings_plain.proofs.Zipped.{zipped_more}
use Rattle.cq_encodings_numbers.proofs.deltas.bits_of_values.Goals as goal

pub loop-value-preserved : goal.loop-value-preserved
loop-value-preserved c =
    let i = c.loop-value.value-index in
    record {
      same = ap (λ (ns : List ℕ). zip2 (bits_datum c.args.kind) ns (nulls_of (take (i + 1) c.args.values.now))) c.push_reserved.ensures.items
          ∙ zipped_more (bits_datum c.args.kind) c.loop-value.numbers.items c.in-Some.number c.args.values.now i c.value-item.result c.loop-value-test.true
          (get_or_read c.args.values.now i c.value-item.result c.loop-value-test.true c.value-item.is lent.Null)
          c.loop-value.invariant.long c.in-Some.ensures c.loop-value.invariant.same;
      long = grind (arith, common_steps);
      room = grind (arith, common_steps);
    }

pub returns : goal.returns
returns c =
    let whole : take c.loop-value.value-index c.args.values.now ≡ c.args.values.now =
    take_all c.loop-value.value-index c.args.values.now (omega (arith, c.loop-value-test.false, c.loop-value.auto.value-index-end)) in
    record {
      long = omega (arith, c.loop-value.invariant.long, c.loop-value-test.false, c.loop-value.auto.value-index-end);
      same = subst (λ (vs : List Lent). zip2 (bits_datum c.args.kind) c.loop-value.numbers.items (nulls_of vs) ≡ map owned vs) whole c.loop-value.invariant.same;
    }
