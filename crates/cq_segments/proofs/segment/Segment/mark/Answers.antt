use Rattle.std.proofs.Common.{◌∙◌, ◌/◌, ap, arith, subst, sym}
use Rattle.std.specs.Prelude.{slice_set}
use Rattle.cq_segments_pieces.specs.Pieces.{joined}
use Rattle.cq_segments.specs.Segment.{IsSegment}
use Rattle.cq_segments.proofs.SegmentRows.{marked, piece_there, segment-marked, within}
use Rattle.cq_segments.proofs.segment.Segment.mark.Goals as goal

pub index_mut-requires : goal.index_mut-requires
index_mut-requires c = omega (arith, c.self.inside.pieces.ok, piece_there c.self.inside.pieces.items c.self.invariant.full c.args.self.now c.self.view_is c.args.place c.requires)

pub mark-requires : goal.mark-requires
mark-requires c = within c.self.inside.pieces.items c.self.invariant.full c.args.self.now c.self.view_is c.args.place c.requires c.index_mut.result.now c.index_mut.ensures.value

pub invariant_of-self : goal.invariant_of-self
invariant_of-self c =
    let pieces = c.self.inside.pieces.items in
    let encoded = c.self.inside.encoded.value.items in
    let bounds = c.self.inside.bounds.items in
    let piece = c.index_mut.result.now in
    subst (λ p. IsSegment encoded (slice_set pieces (c.args.place / 1024) p) bounds) (sym c.mark.ensures)
    (segment-marked pieces c.self.invariant.full c.args.self.now c.self.view_is c.args.place c.requires piece c.index_mut.ensures.value encoded bounds c.self.invariant)

pub returns : goal.returns
returns c =
    let pieces = c.self.inside.pieces.items in
    let piece = c.index_mut.result.now in
    ap (λ p. joined (slice_set pieces (c.args.place / 1024) p)) c.mark.ensures
    ∙ marked pieces c.self.invariant.full c.args.self.now c.self.view_is c.args.place c.requires piece c.index_mut.ensures.value
