use Rattle.cq_model.specs.Own.{whole}
use Rattle.cq_model.specs.Trees.{cond_of}
use Rattle.cq_plan.proofs.Owned.{none-own}
use Rattle.cq_plan.proofs.own.own_parts.Goals as goal

pub returns-clause-own : goal.returns-clause-own
returns-clause-own c =
    let condition = cond_of c.args.tree.now in
    c.in_ok-add_own.ensures.own condition (whole condition) (none-own condition c.args.before c.args.wide c.new-own.result.items c.new-own.ensures.items)

pub returns-clause-all : goal.returns-clause-all
returns-clause-all c = c.in_ok-add_own.ensures.all.all
