use Rattle.std.proofs.lemmas.Result.{err_from_is_err_and}
use Rattle.cq_binder_rules.specs.From.{from_walk}
use Rattle.cq_binder_queries.specs.Catalog.{alone}
use Rattle.cq_binder_queries.specs.From.{shown_from}
use Rattle.cq_binder_queries.proofs.Selecting.{from_refused, selected}
use Rattle.cq_binder_queries.proofs.reading.bind_select.Goals as goal

pub returns-in_err-from : goal.returns-in_err-from
returns-in_err-from g c =
    let p = err_from_is_err_and c.from_residual.result c.from_residual.ensures.1 in
    let q = c.args.select.now in
    let s = alone (g.C.Catalog.tables c.args.catalog.now) (g.C.Catalog.views c.args.catalog.now) in
    rw (p.1, p.2) (from_refused q (from_walk s q) c.in_err-from.field-0.0 c.in_err-from.ensures)

pub returns : goal.returns
returns g c =
    let q = c.args.select.now in
    let s = alone (g.C.Catalog.tables c.args.catalog.now) (g.C.Catalog.views c.args.catalog.now) in
    selected q (from_walk s q) (shown_from c.in_ok-from.from) c.bind_query.result c.in_ok-from.ensures c.bind_query.ensures
