use Rattle.std.proofs.Common.{◌<◌, ◌∙◌, ◌∷◌, ◌++◌, [], ap, ap₂, arith, get_or, length, map, sym, take, List, ℕ}
use Rattle.std.proofs.lemmas.List.{length-set, map-append, take_more, take_more_set}
use Rattle.cq_values.specs.declared.truth.Truth.{Truth}
use Rattle.cq_values.specs.declared.value.Value.TheVariants.{Text}
use Rattle.cq_prims_texts.proofs.by_entries.ask_each.Goals as goal

pub loop-entry-preserved : goal.loop-entry-preserved
loop-entry-preserved g c =
    let entries = c.args.entries.now in
    let i = c.loop-entry.entry in
    let truth : List ℕ → Truth = λ text. g.T.EntryTest.truth c.args.test.now (Text text) in
    let there : i < length entries = omega (arith, c.loop-entry-test.true, c.len-entry-end.ensures.len) in (
      take_more_set c.loop-entry.to i c.ask.result (omega (arith, c.loop-entry-test.true, c.len-entry-end.ensures.len, c.requires, c.loop-entry.invariant.1))
          ∙ ap₂ (λ l t. l ++ t ∷ []) c.loop-entry.invariant.0 (c.ask.ensures ∙ ap truth c.get.ensures)
          ∙ sym (ap (map truth) (take_more entries i [] there) ∙ map-append truth (take i entries) (get_or entries i [] ∷ [])),
      length-set c.loop-entry.to i c.ask.result ∙ c.loop-entry.invariant.1,
    )
