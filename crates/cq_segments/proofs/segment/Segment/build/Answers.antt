use Rattle.std.proofs.Common.{arith}
use Rattle.std.proofs.lemmas.List.{length-map}
use Rattle.std.proofs.lemmas.List.Sorted.{length_permutation}
use Rattle.cq_segments_pieces.specs.Rows.{row_of, stored_rows}
use Rattle.cq_segments.proofs.SegmentRows.{is_built, wide_sorted}
use Rattle.cq_segments.proofs.segment.Segment.build.Goals as goal

pub encode-requires-clause-len : goal.encode-requires-clause-len
encode-requires-clause-len c =
    let rows = c.args.rows.now in
    let sorted = c.in_ok-sorted.field-0.items in
    omega (arith, length_permutation (stored_rows rows) (stored_rows sorted) c.in_ok-sorted.ensures.same, length-map rows row_of, length-map sorted row_of)

pub encode-requires-clause-wide : goal.encode-requires-clause-wide
encode-requires-clause-wide c =
    wide_sorted (stored_rows c.args.rows.now) (stored_rows c.in_ok-sorted.field-0.items) c.args.width c.in_ok-sorted.ensures.same c.requires.wide

pub returns : goal.returns
returns c =
    is_built (stored_rows c.args.rows.now) (stored_rows c.in_ok-sorted.field-0.items) c.in_ok-built.built c.in_ok-built.ensures c.in_ok-sorted.ensures.same
    c.args.sort.now c.in_ok-sorted.ensures.sorted c.in_ok-sorted.ensures.ties
