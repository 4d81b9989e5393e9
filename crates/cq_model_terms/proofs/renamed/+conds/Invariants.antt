use Rattle.std.proofs.Common.{◌≡◌, map, take}
use Rattle.cq_model.specs.Trees.{cond_of}
use Rattle.cq_model_terms.specs.Naming.{cond_by}
use Rattle.cq_model_terms.proofs.renamed.+conds.Given as goal

-- the conditions so far are renamed
abbrev pub invariant-renamed_conds-loop-tree : goal.invariant-renamed_conds-loop-tree
invariant-renamed_conds-loop-tree l = map cond_of l.all.items ≡ map (cond_by l.naming) (take l.tree-index l.trees)
