use Rattle.cq_segments_pieces.specs.Marked.{rows_of}
use Rattle.cq_segments.proofs.Misses.{none_ruled_out}
use Rattle.cq_segments.proofs.segment.Segment.may_match.Goals as goal

pub returns : goal.returns
returns c =
    let b = c.bounds-has_null.result in
    record { skips_no_match = none_ruled_out b c.args.test.now (rows_of c.args.self.now) c.column.result c.column.ensures c.bounds-has_null.ensures c.may_hold.result c.may_hold.ensures }
