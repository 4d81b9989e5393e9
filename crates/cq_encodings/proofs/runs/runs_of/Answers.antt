use Rattle.std.proofs.Common.{[], ap, arith, map, refl, replicate, sym, ◌++◌, ◌+◌, ◌∷◌, ◌∙◌}
use Rattle.cq_values.specs.declared.value.Value.{Value}
use Rattle.cq_values.specs.Lent.{owned}
use Rattle.cq_encodings.specs.Runs.{value_in, values_of_runs}
use Rattle.cq_encodings.proofs.Neighbours.{last_grows, next_begins}
use Rattle.cq_encodings.proofs.Lending.{owned_within}
use Rattle.cq_encodings.proofs.Repeats.{run_ends, run_more}
use Rattle.cq_encodings.proofs.runs.runs_of.Goals as goal
use Rattle.cq_encodings.proofs.runs.runs_of.Goals.{then-are_same, else-are_same+in_ok-value+in_ok-push}

pub loop-i-preserved : goal.loop-i-preserved
loop-i-preserved c =
    elim c.if-are_same.branch [
      | then-are_same w ↦ record {
        done = rw (w.runs-is, w.first-is, w.count-is)
            (run_more (values_of_runs c.loop-i.runs.items) (map owned c.args.values.now) (value_in c.args.values.now c.loop-i.first) c.loop-i.count c.loop-i.i (owned_within c.args.values.now c.loop-i.i c.loop-i-test.true) (sym (w.if-are_same.ensures.0 refl)) c.loop-i.invariant.done);
        runs = rw (w.runs-is, w.first-is, w.count-is)
            (last_grows c.loop-i.runs.items (value_in c.args.values.now c.loop-i.first) c.loop-i.count (c.loop-i.count + 1) (omega arith) c.loop-i.invariant.runs);
        few = omega (arith, w.count-is);
        some = omega (arith, w.count-is);
        within = omega (arith, w.first-is);
      }
      | else-are_same+in_ok-value+in_ok-push w ↦ record {
        done = rw (w.runs-is, w.first-is, w.count-is)
            (run_ends c.loop-i.runs.items w.push.new.self.items _ (map owned c.args.values.now) c.loop-i.i (owned_within c.args.values.now c.loop-i.i c.loop-i-test.true) w.in_ok-push.ensures.items
            (ap (λ (v : Value). values_of_runs c.loop-i.runs.items ++ replicate c.loop-i.count v) w.in_ok-value.ensures ∙ c.loop-i.invariant.done));
        runs = rw (w.runs-is, w.first-is, w.count-is)
            (next_begins c.loop-i.runs.items w.push.new.self.items (record { value = value_in c.args.values.now c.loop-i.first; count = c.loop-i.count }) _ (omega arith)
            (λ same. absurd (cc (w.if-are_same.ensures.1 (sym same))))
            (w.in_ok-push.ensures.items ∙ ap (λ (v : Value). c.loop-i.runs.items ++ record { value = v; count = c.loop-i.count } ∷ []) w.in_ok-value.ensures)
            c.loop-i.invariant.runs);
        few = omega (arith, w.count-is);
        some = omega (arith, w.count-is);
        within = omega (arith, w.first-is);
      }
    ]
