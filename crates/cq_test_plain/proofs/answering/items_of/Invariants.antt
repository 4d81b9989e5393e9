use Rattle.std.proofs.Common.{◌≡◌, take}
use Rattle.cq_model.specs.Meaning.{items_of}
use Rattle.cq_test_plain.proofs.answering.items_of.Given as goal

-- the values of the items so far
abbrev pub invariant-loop-item : goal.invariant-loop-item
invariant-loop-item l = l.values ≡ items_of (take l.item-index l.items) l.row
