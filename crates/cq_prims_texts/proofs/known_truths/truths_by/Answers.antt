use Rattle.std.proofs.Common.{◌<◌, ◌∙◌, ◌∷◌, ◌++◌, [], ap, ap₂, arith, get_or, length, map, sym, take, List, ℕ}
use Rattle.std.proofs.lemmas.List.{map-append, take_more}
use Rattle.cq_values.specs.declared.truth.Truth.{Truth}
use Rattle.cq_values.specs.declared.value.Value.TheVariants.{Text}
use Rattle.cq_prims_texts.proofs.known_truths.truths_by.Goals as goal

pub loop-at-preserved : goal.loop-at-preserved
loop-at-preserved g c =
    let texts = c.args.texts.now in
    let i = c.loop-at.at in
    let truth : List ℕ → Truth = λ text. g.T.EntryTest.truth c.args.test.now (Text text) in
    let there : i < length texts = omega (arith, c.loop-at-test.true, c.len-at-end.ensures.len) in
    record {
      are = c.push_reserved.ensures.items
          ∙ ap₂ (λ l t. l ++ t ∷ []) c.loop-at.invariant.are (c.ask.ensures ∙ ap truth c.get.ensures)
          ∙ sym (ap (map truth) (take_more texts i [] there) ∙ map-append truth (take i texts) (get_or texts i [] ∷ []));
      room = omega (arith, c.loop-at.invariant.room, there, c.push_reserved.ensures.len, c.push_reserved.ensures.capacity);
    }
