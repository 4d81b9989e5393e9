use Rattle.std.proofs.Common.{Bool, cond, sym, ◌∙◌, ap}
use Rattle.std.specs.Ordering.{is_gt}
use Rattle.cq_hash_groups_slots.proofs.Putting.{higher-by_less}
use Rattle.cq_hash_groups_slots.specs.Puts.{best_of}
use Rattle.cq_hash_groups_slots.proofs.bests.is_passed.Goals as goal

pub returns-in-Least : goal.returns-in-Least
returns-in-Least c = λ v w is.
    ap (λ which. best_of which v w) c.in-Least.is ∙ ap (λ (b : Bool). cond b w v) (sym (c.is_gt.ensures ∙ ap is_gt is))

pub returns-in-Greatest : goal.returns-in-Greatest
returns-in-Greatest c = λ v w is.
    ap (λ which. best_of which v w) c.in-Greatest.is ∙ higher-by_less v w c.args.order c.is_lt.result is c.is_lt.ensures
