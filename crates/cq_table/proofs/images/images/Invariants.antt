use Rattle.std.proofs.Common.{◌≡◌, map, take}
use Rattle.cq_model.specs.Write.{image_of}
use Rattle.cq_table.proofs.images.images.Given as goal

-- the images so far are those of the rows so far
abbrev pub invariant-loop-row : goal.invariant-loop-row
invariant-loop-row l = l.images.items ≡ map (image_of l.assignments) (take l.row-index l.rows)
