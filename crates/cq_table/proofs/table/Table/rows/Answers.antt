use Rattle.std.proofs.Common.{◌++◌}
use Rattle.cq_segments_pieces.specs.Marked.{live}
use Rattle.cq_segments_pieces.specs.Pieces.{joined}
use Rattle.cq_table.proofs.Bagged.{sound_bag}
use Rattle.cq_table.proofs.table.Table.rows.Goals as goal

pub returns-clause-sound : goal.returns-clause-sound
returns-clause-sound c = rw (← c.self.view_is) (sound_bag c.self.inside.layout.columns c.self.inside.max_rows (live (joined c.self.inside.segments.items ++ c.self.inside.written.rows)) c.self.invariant.sound)
