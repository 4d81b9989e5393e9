use Rattle.std.proofs.Common.{◌∙◌, ap, arith, subst, sym}
use Rattle.std.specs.Global.{Vec}
use Rattle.cq_encodings.specs.declared.any_encoded.AnyEncoded.{AnyEncoded}
use Rattle.cq_segments_pieces.specs.Columns.{AreLong, columns_in, encoded_rows}
use Rattle.cq_segments.specs.InOrder.{rows_in_order}
use Rattle.cq_segments_pieces.specs.Marked.{unmarked}
use Rattle.cq_segments_pieces.proofs.Parts.{decoded, encoded_long}
use Rattle.cq_segments.proofs.SegmentRows.{segment-built}
use Rattle.cq_segments.proofs.segment.Segment.encode.Goals as goal

pub make_pieces-requires-clause-long : goal.make_pieces-requires-clause-long
make_pieces-requires-clause-long c =
    subst (λ (v : Vec AnyEncoded). AreLong c.args.len (columns_in v.items)) (sym (c.in_ok-clone.ensures.cases ∙ c.in_ok-shared.ensures.ok))
    (encoded_long c.in_ok-encoded.encoded.items (rows_in_order c.args.rows.now) c.args.width c.args.len c.in_ok-encoded.ensures.values c.requires.len)

pub invariant_of-result : goal.invariant_of-result
invariant_of-result c =
    let rows = rows_in_order c.args.rows.now in
    let same = ap (λ (v : Vec AnyEncoded). encoded_rows v.items c.args.len) (c.in_ok-clone.ensures.cases ∙ c.in_ok-shared.ensures.ok) in
    let read = same ∙ decoded c.in_ok-encoded.encoded.items rows c.args.width c.args.len c.in_ok-encoded.ensures.values c.requires.len c.requires.wide in
    let columns = ap (λ (v : Vec AnyEncoded). columns_in v.items) c.in_ok-shared.ensures.ok ∙ c.in_ok-encoded.ensures.values in
    segment-built rows c.in_ok-pieces.pieces.items (c.in_ok-pieces.ensures.rows ∙ ap unmarked read) c.args.width c.in_ok-shared.shared.value.items c.in_ok-encoded.bounds.items
    c.in_ok-pieces.ensures.full columns c.in_ok-encoded.ensures.as_many c.in_ok-encoded.ensures.bounds c.requires.wide (omega (arith, c.requires.len, c.requires.some)) (omega (arith, c.requires.len, c.requires.few))

pub returns : goal.returns
returns c =
    let rows = rows_in_order c.args.rows.now in
    let same = ap (λ (v : Vec AnyEncoded). encoded_rows v.items c.args.len) (c.in_ok-clone.ensures.cases ∙ c.in_ok-shared.ensures.ok) in
    c.in_ok-pieces.ensures.rows
    ∙ ap unmarked (same ∙ decoded c.in_ok-encoded.encoded.items rows c.args.width c.args.len c.in_ok-encoded.ensures.values c.requires.len c.requires.wide)
