use Rattle.std.proofs.Common.{List, ap, append_assoc, arith, drop, replicate, sym, take, ◌++◌, ◌+◌, ◌-◌, ◌≡◌, ◌∙◌, ℕ}
use Rattle.cq_values.specs.declared.value.Value.{Value}
use Rattle.cq_encodings.specs.Runs.{values_of_runs}
use Rattle.cq_encodings.proofs.Repeats.{take_next, values_from_run}
use Rattle.cq_encodings.proofs.runs.lend_from.Goals as goal

pub loop-run-preserved : goal.loop-run-preserved
loop-run-preserved c =
    let run = c.run-item.result in
    let rest = values_of_runs (drop (c.loop-run.run-index + 1) c.args.runs.now) in
    let here = c.min-here.result in
    let copied : c.loop.to ≡ c.loop-run.to ++ replicate here run.value =
    c.loop.invariant.copied ∙ ap (λ (k : ℕ). c.loop-run.to ++ replicate k run.value) {x = c.loop.counter} {y = here} (omega arith) in
    record {
      done = ap (λ (vs : List Value). vs ++ take (c.loop-run.left - here) (drop (c.loop-run.skip - c.min-passed.result) rest)) copied
          ∙ append_assoc c.loop-run.to (replicate here run.value) _
          ∙ ap (λ (vs : List Value). c.loop-run.to ++ vs)
          (sym (take_next run.value run.count c.loop-run.skip c.loop-run.left c.min-passed.result here rest c.min-passed.ensures c.min-here.ensures)
          ∙ ap (λ (vs : List Value). take c.loop-run.left (drop c.loop-run.skip vs)) (sym (values_from_run c.args.runs.now c.loop-run.run-index run c.loop-run-test.true c.run-item.is)))
          ∙ c.loop-run.invariant.done;
      few = omega arith;
    }
