use Rattle.std.proofs.Common.{ℕ, sym, subst, arith}
use Rattle.std.specs.Prelude.{slice_index_or}
use Rattle.cq_values_rows.specs.Flat.{IsPlaced}
use Rattle.cq_values_rows.proofs.Cutting.{placed_first, placed_later}
use Rattle.cq_values_rows.proofs.flat.bounds_of.Goals as goal

pub returns-then-place-eq0 : goal.returns-then-place-eq0
returns-then-place-eq0 c =
    let e = c.if-place-eq0.true in
    subst (λ (place : ℕ). IsPlaced c.args.ends.now place 0 (slice_index_or c.args.ends.now 0 0)) (sym e)
    (placed_first c.args.ends.now 0 c.requires.rising (omega (arith, e, c.requires.there)))

pub returns-else-place-eq0 : goal.returns-else-place-eq0
returns-else-place-eq0 c = placed_later c.args.ends.now c.args.place c.requires.rising c.if-place-eq0.false c.requires.there
