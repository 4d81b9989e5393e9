use Rattle.std.proofs.Common.{◌∙◌, ap, ap₂, arith, drop, take}
use Rattle.cq_segments_pieces.specs.Marked.{with_flags}
use Rattle.cq_segments_pieces.proofs.Marks.{drop-flags, length-flags, take-flags}
use Rattle.cq_writestore.proofs.MarkedLists.{drop-min, take-min}
use Rattle.cq_writestore.proofs.tail.Tail.split_at.Goals as goal

pub split_at-requires : goal.split_at-requires
split_at-requires c = omega (arith, c.requires, length-flags c.args.self.now.rows.now c.args.self.now.marks.now)

pub returns-clause-front : goal.returns-clause-front
returns-clause-front c =
    let rows = c.args.self.now.rows.now in
    let flags = c.args.self.now.marks.now in
    ap₂ with_flags c.split_at.ensures.front (c.split_at-2.ensures.front ∙ ap (λ n. take n flags) c.min.ensures ∙ take-min c.args.mid flags) ∙ take-flags rows flags c.args.mid

pub returns-clause-back : goal.returns-clause-back
returns-clause-back c =
    let rows = c.args.self.now.rows.now in
    let flags = c.args.self.now.marks.now in
    ap₂ with_flags c.split_at.ensures.back (c.split_at-2.ensures.back ∙ ap (λ n. drop n flags) c.min.ensures ∙ drop-min c.args.mid flags) ∙ drop-flags rows flags c.args.mid
