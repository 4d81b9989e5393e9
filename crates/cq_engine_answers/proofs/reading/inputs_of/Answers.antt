use Rattle.std.proofs.Common.{◌∙◌, ◌∷◌, [], List, ap, map}
use Rattle.std.proofs.lemmas.List.{take_all}
use Rattle.cq_values.specs.Value.{Row}
use Rattle.cq_table_columns.specs.Sources.{rows_or}
use Rattle.cq_engine_answers.proofs.Lents.{rows-in-turn}
use Rattle.cq_engine_answers.proofs.reading.inputs_of.Goals as goal

-- behind the last join they are those of all sources
pub returns : goal.returns
returns c =
    let lents = c.args.lent.now in
    let q = c.args.query.now in
    c.loop-join.invariant
    ∙ ap (λ (others : List (List Row)). rows_or lents q.first [] ∷ others)
    (ap (map (λ j. rows_or lents j.source [])) (take_all c.loop-join.join-index c.as_slice-join-items.result.now c.loop-join-test.false ∙ c.as_slice-join-items.ensures)
    ∙ rows-in-turn lents q.joins)
