use Rattle.std.proofs.Common.{◌+◌, ◌∙◌, sym, ap, drop}
use Rattle.std.proofs.lemmas.Result.{err_from_is_err_and}
use Rattle.cq_binder_rules.specs.From.{From, join_walk, joins_walk}
use Rattle.cq_binder_rules.specs.Scopes.{source_named}
use Rattle.cq_binder_rules.specs.Typing.{fault_in}
use Rattle.cq_binder_queries.specs.Catalog.{state_of}
use Rattle.cq_binder_queries.specs.From.{may_stand, shown_from}
use Rattle.cq_binder_queries.proofs.Faults.{refused_same}
use Rattle.cq_binder_queries.proofs.Joining.{joins_more, refused_before}
use Rattle.cq_binder_queries.proofs.from.bound_from.Goals as goal

pub returns-in_err-from-2 : goal.returns-in_err-from-2
returns-in_err-from-2 g c =
    let p = err_from_is_err_and c.from_residual-in_err-from-2.result c.from_residual-in_err-from-2.ensures.1 in
    let may = may_stand c.args.allowed in
    let s = state_of g.C.Catalog.tables g.C.Catalog.views c.args.catalog.now in
    let js = c.args.select.now.joins in
    let from = shown_from c.loop-join.from in
    let j = c.join-item.result in
    let lt = rw c.as_slice-join-items.ensures at c.loop-join-test.true in
    let is = rw c.as_slice-join-items.ensures at c.join-item.is in
    let m = joins_more may s from js c.loop-join.join-index j lt is in
    let rest = λ (wide : From). joins_walk may s wide (drop (c.loop-join.join-index + 1) js) in
    let e = refused_before (join_walk may from j (source_named j.source.name s)) rest c.in_err-from-2.field-0.0 c.in_err-from-2.ensures in
    rw (p.1, p.2) (refused_same _ _ _ (ap fault_in (sym c.loop-join.invariant ∙ m)) e)
