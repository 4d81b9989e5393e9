use Rattle.std.proofs.Common.{◌∙◌, ◌%◌, [], ap, arith, get_or}
use Rattle.cq_segments.proofs.SegmentRows.{piece_there, row_read}
use Rattle.cq_segments.proofs.segment.Segment.at.Goals as goal

pub index-piece-requires : goal.index-piece-requires
index-piece-requires c = omega (arith, c.self.inside.pieces.ok, piece_there c.self.inside.pieces.items c.self.invariant.full c.args.self.now c.self.view_is c.args.place c.requires)

pub returns : goal.returns
returns c =
    ap (λ l. get_or l (c.args.place % 1024) []) c.columns.ensures
    ∙ row_read c.self.inside.pieces.items c.self.invariant.full c.args.self.now c.self.view_is c.args.place c.requires c.index-piece.result.now c.index-piece.ensures
