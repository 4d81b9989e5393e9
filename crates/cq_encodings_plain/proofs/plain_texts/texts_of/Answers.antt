use Rattle.std.proofs.Common.{List, [], ap, arith, subst, sym, take, ◌+◌, ◌∙◌, ℕ}
use Rattle.std.specs.Simd.Lanes.{zip2}
use Rattle.std.proofs.lemmas.Grind.{common_steps}
use Rattle.std.proofs.lemmas.List.{get_or_read}
use Rattle.cq_encodings_plain.proofs.Zipped.{nothing_more, parts_are, zipped_more}
use Rattle.cq_encodings_plain.specs.Nulls.{NothingWhere}
use Rattle.cq_encodings_plain.specs.Parts.{nulls_of}
use Rattle.cq_values.specs.declared.lent.Lent.TheVariants as lent
use Rattle.cq_vectors_stored.specs.Columns.{text_unless}
use Rattle.cq_encodings_plain.proofs.plain_texts.texts_of.Goals as goal

pub loop-value-preserved : goal.loop-value-preserved
loop-value-preserved c =
    let i = c.loop-value.value-index in
    let flags = nulls_of (take (i + 1) c.args.values.now) in
    let there = get_or_read c.args.values.now i c.value-item.result c.loop-value-test.true c.value-item.is lent.Null in
    record {
      same = ap (λ (ts : List (List ℕ)). zip2 text_unless ts flags) c.in_ok-push-in-Some.ensures.ok
          ∙ zipped_more text_unless c.loop-value.texts c.in-Some.text.now c.args.values.now i c.value-item.result c.loop-value-test.true there
          c.loop-value.invariant.long c.in-Some.ensures.same c.loop-value.invariant.same;
      clear = subst (λ (ts : List (List ℕ)). NothingWhere [] flags ts) (sym c.in_ok-push-in-Some.ensures.ok)
          (nothing_more [] c.loop-value.texts c.in-Some.text.now c.args.values.now i c.value-item.result c.loop-value-test.true there
          c.loop-value.invariant.long c.in-Some.ensures.empty c.loop-value.invariant.clear);
      long = grind (arith, common_steps);
    }

pub returns : goal.returns
returns c =
    parts_are text_unless [] c.loop-value.texts c.args.values.now c.loop-value.value-index (omega (arith, c.loop-value-test.false, c.loop-value.auto.value-index-end))
    c.loop-value.invariant.long (omega (arith, c.loop-value-test.false, c.loop-value.auto.value-index-end)) c.loop-value.invariant.clear c.loop-value.invariant.same
