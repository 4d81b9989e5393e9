use Rattle.std.proofs.Common.{◌≡◌, map, take}
use Rattle.cq_model.specs.Trees.{cond_of}
use Rattle.cq_plan.specs.OwnTest.{cond_behind}
use Rattle.cq_plan.proofs.own_test.parts_behind.Given as goal

-- the parts so far are conditions on the source's rows
abbrev pub invariant-loop-part : goal.invariant-loop-part
invariant-loop-part l = map cond_of l.all.items ≡ map (λ t. cond_behind l.before (cond_of t.now)) (take l.part-index l.parts)
