use Rattle.std.proofs.Common.{◌+◌, ap, ◌∙◌, add-zero, length}
use Rattle.cq_cli.proofs.Writes.{more, some_taken}
use Rattle.cq_cli.proofs.putting.put_all.Goals as goal

pub loop-rest-preserved : goal.loop-rest-preserved
loop-rest-preserved g c =
    let before = g.K.Sink.failures c.loop-rest.out in (
      more c.args.bytes.now c.loop-rest.rest.now c.split_at.result.1.now c.in-Ok.n _ _ _ _ _ _ c.loop-rest.invariant.0 c.in-Ok.ensures.taken
          (c.in-Ok.ensures.failed ∙ ap (λ n. before + n) (some_taken c.in-Ok.n (length c.loop-rest.rest.now) c.if-n-gt0.true) ∙ add-zero before)
          c.split_at.ensures.back,
      c.in-Ok.ensures.flushes ∙ c.loop-rest.invariant.1,
    )
