use Rattle.std.proofs.Common.{rules, tests, arith, inr, refl}
use Rattle.cq_binder_expressions.proofs.trees.sum_tree.Goals as goal

pub returns : goal.returns
returns c = inr (search (rules, tests, arith), c.in_ok-first.first, search rules, refl)
