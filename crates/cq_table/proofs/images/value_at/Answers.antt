use Rattle.std.proofs.Common.{◌≡◌, true, false, rules, refl, sym, ◌∙◌}
use Rattle.std.specs.Prelude.{◌==◌}
use Rattle.cq_table.proofs.Setting.{value_more}
use Rattle.cq_table.proofs.images.value_at.Goals.{then-assignment-place, else-assignment-place}
use Rattle.cq_table.proofs.images.value_at.Goals as goal

pub loop-assignment-preserved : goal.loop-assignment-preserved
loop-assignment-preserved c =
    let l = c.loop-assignment in
    let a = c.assignment-item.result in
    let more = value_more c.args.assignments.now l.assignment-index a c.args.old.now c.args.place c.loop-assignment-test.true (sym c.assignment-item.is) c.requires.within in
    elim c.if-assignment-place.branch [
      | then-assignment-place w ↦
          let own : (a.column == c.args.place) ≡ true = search rules in
          rw w.value-is (w.eval_row-value.ensures ∙ sym (more ∙ rw own refl))
      | else-assignment-place w ↦
          let other : (a.column == c.args.place) ≡ false = search rules in
          rw w.value-is (l.invariant ∙ sym (more ∙ rw other refl))
    ]
