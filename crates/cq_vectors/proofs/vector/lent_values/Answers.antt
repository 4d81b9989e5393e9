use Rattle.std.proofs.Common.{◌∙◌, ◌∷◌, [], ap, arith, map}
use Rattle.std.proofs.lemmas.List.{map-append}
use Rattle.cq_values.specs.Lent.{owned}
use Rattle.cq_vectors.proofs.Gathering.{taken_more}
use Rattle.cq_vectors.proofs.vector.lent_values.Goals as goal

pub loop-row-preserved : goal.loop-row-preserved
loop-row-preserved c =
    ap (map owned) c.push_reserved.ensures.items ∙ map-append owned c.loop-row.values.items (c.lend.result ∷ [])
    ∙ taken_more c.args.rows.now c.args.column c.loop-row.row-index _ c.row-item.result (map owned c.loop-row.values.items) (owned c.lend.result) (omega (arith, c.loop-row-test.true, c.loop-row.auto.row-index-end)) c.row-item.is c.loop-row.invariant c.lend.ensures
