use Rattle.std.proofs.Common.{Ok, subst}
use Rattle.cq_binder_rules.specs.Checks.{first_fault, MayRefuse}
use Rattle.cq_binder_rules.specs.Typing.{Scope}
use Rattle.cq_binder_queries.specs.Parts.{BindsEnd, end_walk}
use Rattle.cq_binder_queries.proofs.parts.ended_parts.Goals as goal

pub returns-in-Err : goal.returns-in-Err
returns-in-Err c =
    let q = c.args.query.now in
    subst (λ (s : Scope). MayRefuse (first_fault (end_walk s q)) c.in-Err.fault) c.item_scope-scope.ensures c.in-Err.ensures

pub returns : goal.returns
returns c =
    let q = c.args.query.now in
    let before = c.args.clauses.aggregates in
    let ended = subst (λ (s : Scope). BindsEnd s before c.bound_end.new.aggregates q (Ok c.in-Ok.having)) c.item_scope-scope.ensures c.in-Ok.ensures in
    (ended.0, record { filter = c.requires.filter; shape = c.shape_of-shape.ensures c.args.columns.now before c.requires.keys c.requires.aggregates ended.1; items = c.requires.items })
