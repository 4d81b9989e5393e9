use Rattle.std.proofs.Common.{map, take}
use Rattle.cq_model_bags.specs.Bag.{SameBag, once_each}
use Rattle.cq_table_columns.specs.Stored.{front_rows}
use Rattle.cq_model.specs.Group.{key_of}
use Rattle.cq_views.proofs.cutting.cut_once.Given as goal

-- the rows so far, cut, once each
abbrev pub invariant-loop-place : goal.invariant-loop-place
invariant-loop-place l = SameBag l.once.entries (once_each (map (key_of l.columns) (take l.place (front_rows l.front))))
