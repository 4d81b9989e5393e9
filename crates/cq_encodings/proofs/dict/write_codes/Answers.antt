use Rattle.std.proofs.Common.{List, ap, arith, length, subst, sym, take, ◌+◌, ◌<◌, ◌∙◌, ℕ}
use Rattle.std.specs.List.{All}
use Rattle.std.specs.Simd.Lanes.{zip2}
use Rattle.std.proofs.lemmas.Bool.{OnTrue_at}
use Rattle.std.proofs.lemmas.Grind.{common_steps}
use Rattle.std.proofs.lemmas.List.{get_or_read}
use Rattle.cq_values.specs.Lent.{owned}
use Rattle.cq_values.specs.declared.lent.Lent.TheVariants as lent
use Rattle.cq_vectors_stored.specs.Columns.{text_unless}
use Rattle.cq_encodings_plain.specs.Nulls.{NothingWhere}
use Rattle.cq_encodings_plain.specs.Parts.{nulls_of}
use Rattle.cq_encodings.specs.Dict.{coded, with_text}
use Rattle.cq_encodings.proofs.Coded.{codes_are, coded_so_far, within_more}
use Rattle.cq_encodings.proofs.Different.{met_more}
use Rattle.cq_encodings_plain.proofs.Zipped.{nothing_more}
use Rattle.cq_encodings.proofs.dict.write_codes.Goals as goal

pub loop-value-preserved : goal.loop-value-preserved
loop-value-preserved g c =
    let i = c.loop-value.value-index in
    let old = c.loop-value.known in
    let new = c.code_of.new.known in
    let codes = g.W.FixedWidth.numbers c.loop-value.to in
    let code = c.in-Some.code in
    let is = rw c.in-Some.is at c.in_ok-code.ensures in
    let pushed = OnTrue_at c.if-not-push_number.false c.push_number.ensures.pushed in
    let there = get_or_read c.args.values.now i c.value-item.result c.loop-value-test.true c.value-item.is lent.Null in
    record {
      same = ap (λ (ns : List ℕ). zip2 text_unless (coded new ns) (nulls_of (take (i + 1) c.args.values.now))) pushed
          ∙ coded_so_far old new codes code c.args.values.now i c.value-item.result c.loop-value-test.true there
          c.loop-value.invariant.long is.kept c.loop-value.invariant.within is.same c.loop-value.invariant.same;
      met = is.met ∙ ap (λ (ts : List (List ℕ)). with_text ts (owned c.value-item.result)) c.loop-value.invariant.met
          ∙ sym (met_more c.args.values.now c.args.known.now i c.value-item.result c.loop-value-test.true there);
      clear = subst (λ (ns : List ℕ). NothingWhere 0 (nulls_of (take (i + 1) c.args.values.now)) ns) (sym pushed)
          (nothing_more 0 codes code c.args.values.now i c.value-item.result c.loop-value-test.true there
          c.loop-value.invariant.long is.null c.loop-value.invariant.clear);
      within = subst (λ (ns : List ℕ). All (λ n. n < length new) ns) (sym pushed) (within_more old new codes code is.kept is.within c.loop-value.invariant.within);
      some = omega (arith, is.within);
      long = grind (arith, common_steps);
      seen = omega (arith, c.loop-value.invariant.seen);
      room = omega (arith, c.push_number.ensures.room, c.loop-value.invariant.room);
    }

pub returns : goal.returns
returns g c all =
    codes_are c.loop-value.known (g.W.FixedWidth.numbers c.loop-value.to) c.args.values.now c.loop-value.value-index
    (omega (arith, c.loop-value-test.false, c.loop-value.auto.value-index-end)) (omega (arith, c.loop-value-test.false, c.loop-value.auto.value-index-end))
    c.loop-value.invariant.long c.loop-value.invariant.clear c.loop-value.invariant.within c.args.known.now c.requires.first c.loop-value.invariant.met c.loop-value.invariant.same
