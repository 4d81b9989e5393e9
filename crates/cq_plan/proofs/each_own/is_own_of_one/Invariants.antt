use Rattle.std.proofs.Common.{◌≡◌, drop}
use Rattle.cq_model.specs.Trees.{cond_of}
use Rattle.cq_plan.specs.EachOwn.{is_of_one}
use Rattle.cq_plan.proofs.each_own.is_own_of_one.Given as goal

-- whether one is named is left to the sources that are left
abbrev pub invariant-loop-source : goal.invariant-loop-source
invariant-loop-source l = is_of_one (drop l.source-index l.sources) (cond_of l.tree) ≡ is_of_one l.sources (cond_of l.tree)
