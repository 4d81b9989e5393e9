use Rattle.std.proofs.Common.{◌≤◌, ◌<◌, ◌∙◌, ◌+◌, ℕ, Some, arith, length, subst, sym}
use Rattle.cq_encodings_numbers.specs.Ends.{AreEnds}
use Rattle.cq_encodings_numbers.proofs.PartEnds.{nothing_yet, with_known, with_null}
use Rattle.cq_encodings_numbers.proofs.ends.ends_between.Goals.{then-is_null_at, else-is_null_at}
use Rattle.cq_encodings_numbers.proofs.ends.ends_between.Goals as goal

pub loop-place-init : goal.loop-place-init
loop-place-init c = record { from = omega arith; ends = nothing_yet c.args.start c.args.offsets.now c.args.nulls.now }

pub loop-place-preserved : goal.loop-place-preserved
loop-place-preserved c =
    let l = c.loop-place in
    let offsets = c.args.offsets.now in
    let nulls = c.args.nulls.now in
    let from : c.args.start ≤ l.place = l.invariant.from in
    let lt : l.place < length offsets = omega (arith, c.loop-place-test.true, c.requires.there) in
    elim c.if-is_null_at.branch [
      | then-is_null_at w ↦ rw (w.has_null-is, w.ends-is) (record {
        from = omega (arith, from);
        ends = with_null c.args.start offsets nulls l.place from lt (record { has_null = l.has_null; ends = l.ends }) l.invariant.ends (sym c.is_null_at.ensures ∙ w.if-is_null_at.true);
      })
      | else-is_null_at w ↦ rw (w.has_null-is, w.ends-is) (record {
        from = omega (arith, from);
        ends = subst (λ (e : ℕ × ℕ). AreEnds c.args.start (l.place + 1) offsets nulls (record { has_null = l.has_null; ends = Some e })) (sym w.wider.ensures)
            (with_known c.args.start offsets nulls l.place from lt (record { has_null = l.has_null; ends = l.ends }) l.invariant.ends w.at.result (sym w.at.ensures) (sym c.is_null_at.ensures ∙ w.if-is_null_at.false));
      })
    ]
