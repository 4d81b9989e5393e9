use Rattle.std.proofs.Common.{◌≡◌, take}
use Rattle.cq_model.specs.Write.{image_of}
use Rattle.cq_table.proofs.images.image.Given as goal

-- the values so far are those of the image
abbrev pub invariant-loop-place : goal.invariant-loop-place
invariant-loop-place l = l.row ≡ take l.place (image_of l.assignments l.old)
