use Rattle.std.proofs.Common.{◌≡◌, ◌^◌, drop, nat_lt}
use Rattle.std.specs.List.{list_all}
use Rattle.cq_model.specs.Trees.{cond_of}
use Rattle.cq_model.specs.Width.{widest_limit}
use Rattle.cq_model_eval.proofs.width.+tree_fits.Given as goal

-- whether the condition fits is left to the parts that are left
abbrev pub invariant-loop-part : goal.invariant-loop-part
invariant-loop-part l =
    list_all (λ t. nat_lt (widest_limit (cond_of t) l.sizes) (2 ^ 127)) (drop l.part-index l.part-items) ≡ nat_lt (widest_limit (cond_of l.tree) l.sizes) (2 ^ 127)
