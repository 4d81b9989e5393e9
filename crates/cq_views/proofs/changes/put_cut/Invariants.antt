use Rattle.std.proofs.Common.{◌++◌, map, take}
use Rattle.cq_model_bags.specs.Bag.{SameBag}
use Rattle.cq_segments_pieces.specs.Rows.{row_of}
use Rattle.cq_views.specs.Changes.{weighed}
use Rattle.cq_model.specs.Group.{key_of}
use Rattle.cq_views.proofs.changes.put_cut.Given as goal

-- the rows so far, cut, are there with the weight
abbrev pub invariant-loop-row : goal.invariant-loop-row
invariant-loop-row l = SameBag l.cut.entries (l.initial.cut.entries ++ weighed (map (λ s. key_of l.columns (row_of s)) (take l.row-index l.rows)) l.initial.weight)
