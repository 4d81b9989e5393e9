use Rattle.std.proofs.Common.{◌∙◌, ◌%◌, [], ap, arith, get_or, length}
use Rattle.cq_segments_pieces.proofs.Marks.{length-rows_of}
use Rattle.cq_segments.proofs.SegmentRows.{piece_there, row_read, within}
use Rattle.cq_segments.proofs.segment.Segment.row.Goals as goal

pub index-requires : goal.index-requires
index-requires c = omega (arith, c.self.inside.pieces.ok, piece_there c.self.inside.pieces.items c.self.invariant.full c.args.self.now c.self.view_is c.args.place c.requires)

pub row-requires : goal.row-requires
row-requires c =
    omega (arith, within c.self.inside.pieces.items c.self.invariant.full c.args.self.now c.self.view_is c.args.place c.requires c.index.result.now c.index.ensures, ap length c.columns.ensures, length-rows_of c.index.result.now)

pub returns : goal.returns
returns c =
    c.row.ensures ∙ ap (λ l. get_or l (c.args.place % 1024) []) c.columns.ensures
    ∙ row_read c.self.inside.pieces.items c.self.invariant.full c.args.self.now c.self.view_is c.args.place c.requires c.index.result.now c.index.ensures
