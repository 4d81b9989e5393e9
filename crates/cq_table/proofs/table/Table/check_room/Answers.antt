use Rattle.std.proofs.Common.{◌≡◌, ◌+◌, ◌++◌, length, subst, arith}
use Rattle.cq_model_bags.specs.Canonical.{bag_of}
use Rattle.cq_model_bags.proofs.Canonicals.{length-bag_of}
use Rattle.cq_segments_pieces.specs.Marked.{live}
use Rattle.cq_segments_pieces.specs.Pieces.{joined}
use Rattle.cq_table.specs.Checks.{IsChecked, too_many}
use Rattle.cq_table.proofs.table.Table.check_room.Goals as goal

pub returns : goal.returns
returns c =
    let rows = live (joined c.self.inside.segments.items ++ c.self.inside.written.rows) in
    let count : c.self.inside.live + c.args.added ≡ length (bag_of rows) + c.args.added = omega (arith, c.self.invariant.counted, length-bag_of rows) in
    rw (← c.self.view_is) (subst (λ n. IsChecked (too_many c.self.inside.max_rows n) c.check_room.result) count c.check_room.ensures)
