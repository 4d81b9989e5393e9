use Rattle.std.proofs.Common.{◌∙◌, arith}
use Rattle.cq_segments.proofs.SegmentRows.{mark_read, piece_there, within}
use Rattle.cq_segments.proofs.segment.Segment.is_marked.Goals as goal

pub index-requires : goal.index-requires
index-requires c = omega (arith, c.self.inside.pieces.ok, piece_there c.self.inside.pieces.items c.self.invariant.full c.args.self.now c.self.view_is c.args.place c.requires)

pub is_marked-requires : goal.is_marked-requires
is_marked-requires c = within c.self.inside.pieces.items c.self.invariant.full c.args.self.now c.self.view_is c.args.place c.requires c.index.result.now c.index.ensures

pub returns : goal.returns
returns c = c.is_marked.ensures ∙ mark_read c.self.inside.pieces.items c.self.invariant.full c.args.self.now c.self.view_is c.args.place c.requires c.index.result.now c.index.ensures
