use Rattle.std.proofs.Common.{◌<◌, ◌≤◌, ap, arith, length, subst, sym}
use Rattle.std.proofs.lemmas.Bool.{ltb-false}
use Rattle.cq_segments_pieces.specs.Columns.{AreWide}
use Rattle.cq_segments_pieces.specs.Marked.{rows_of}
use Rattle.cq_segments_pieces.proofs.Marks.{length-rows_of}
use Rattle.cq_segments.proofs.SegmentRows.{nulls_past}
use Rattle.cq_segments.proofs.segment.Segment.bounds.Goals as goal

pub returns-in-None : goal.returns-in-None
returns-in-None c =
    let width = length c.self.inside.bounds.items in
    let past : width ≤ c.args.column = omega (arith, ltb-false c.args.column (length c.deref.result.now) (sym c.in-None.ensures.lookup.0), ap length c.deref.ensures.value) in
    let some : 0 < length (rows_of c.args.self.now) = omega (arith, c.self.invariant.some, ap length c.self.view_is, length-rows_of c.args.self.now) in
    nulls_past (rows_of c.args.self.now) width c.args.column some (subst (λ s. AreWide width (rows_of s)) c.self.view_is c.self.invariant.wide) past
