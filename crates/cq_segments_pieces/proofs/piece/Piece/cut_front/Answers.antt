use Rattle.std.proofs.Common.{◌∙◌, ◌-◌, ℕ, List, Bool, ap, ap₂, arith, drop, length, subst, sym, take}
use Rattle.cq_values.specs.Value.{Row}
use Rattle.cq_segments_pieces.specs.Marked.{AreCounted, marked_count, with_flags}
use Rattle.cq_segments_pieces.proofs.Marks.{count-parts, counted-behind, drop-flags, length-flags}
use Rattle.cq_segments_pieces.proofs.piece.Piece.cut_front.Goals as goal

pub cut_front-requires : goal.cut_front-requires
cut_front-requires c = omega (arith, c.requires, ap length c.self.view_is, length-flags c.self.inside.columns c.self.inside.marks)

pub drop_flags-requires : goal.drop_flags-requires
drop_flags-requires c = omega (arith, c.requires, ap length c.self.view_is, length-flags c.self.inside.columns c.self.inside.marks, c.self.invariant.long)

pub overflow_sub-self : goal.overflow_sub-self
overflow_sub-self c =
    omega (arith, c.marked_before-gone.ensures, count-parts c.args.count c.args.self.now, ap marked_count c.self.view_is, c.self.invariant.count)

pub invariant_of-self : goal.invariant_of-self
invariant_of-self c =
    let rows = c.self.inside.columns in
    let flags = c.self.inside.marks in
    let n = c.args.count in
    let gone = c.marked_before-gone.ensures ∙ ap (λ l. marked_count (take n l)) (sym c.self.view_is) in
    let left = ap (λ (k : ℕ). c.self.inside.marked - k) gone in
    subst (λ (r : List Row). AreCounted r c.drop_flags.new.plane (c.self.inside.marked - c.marked_before-gone.result)) (sym c.cut_front.ensures)
    (subst (λ (f : List Bool). AreCounted (drop n rows) f (c.self.inside.marked - c.marked_before-gone.result)) (sym c.drop_flags.ensures)
    (subst (AreCounted (drop n rows) (drop n flags)) (sym left) (counted-behind rows flags c.self.inside.marked n c.self.invariant)))

pub returns : goal.returns
returns c =
    ap₂ with_flags c.cut_front.ensures c.drop_flags.ensures ∙ drop-flags c.self.inside.columns c.self.inside.marks c.args.count ∙ ap (drop c.args.count) c.self.view_is
