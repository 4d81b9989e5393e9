use Rattle.std.proofs.Common.{◌∙◌, arith, replicate, sym}
use Rattle.std.proofs.lemmas.Bool.{OnFalse_at}
use Rattle.std.proofs.lemmas.List.{replicate_more}
use Rattle.cq_values.specs.declared.value.Value.TheVariants.{Null}
use Rattle.cq_vectors.proofs.Gathering.{taken_more}
use Rattle.cq_vectors.proofs.vector.all_null.Goals as goal

pub loop-row-preserved : goal.loop-row-preserved
loop-row-preserved c =
    sym (taken_more c.args.rows.now c.args.column c.loop-row.row-index _ c.row-item.result (replicate c.loop-row.row-index Null) Null (omega (arith, c.loop-row-test.true, c.loop-row.auto.row-index-end)) c.row-item.is (sym c.loop-row.invariant)
    (sym (OnFalse_at c.if-has_value.false c.has_value.ensures))) ∙ replicate_more c.loop-row.row-index Null
