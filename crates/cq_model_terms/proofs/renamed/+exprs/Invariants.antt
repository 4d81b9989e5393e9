use Rattle.std.proofs.Common.{◌≡◌, map, take}
use Rattle.cq_model.specs.Trees.{expr_of}
use Rattle.cq_model_terms.specs.Naming.{expr_by}
use Rattle.cq_model_terms.proofs.renamed.+exprs.Given as goal

-- the expressions so far are renamed
abbrev pub invariant-renamed_exprs-loop-tree : goal.invariant-renamed_exprs-loop-tree
invariant-renamed_exprs-loop-tree l = map expr_of l.all.items ≡ map (expr_by l.naming) (take l.tree-index l.trees)
