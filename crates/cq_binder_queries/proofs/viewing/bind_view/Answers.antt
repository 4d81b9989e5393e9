use Rattle.std.proofs.lemmas.Result.{err_from_is_err_and}
use Rattle.cq_binder_rules.specs.From.{view_walk}
use Rattle.cq_binder_queries.specs.Catalog.{alone}
use Rattle.cq_binder_queries.specs.From.{shown_from}
use Rattle.cq_binder_queries.proofs.Creating.{from_refused, viewed}
use Rattle.cq_binder_queries.proofs.viewing.bind_view.Goals as goal

pub returns-in_err-from : goal.returns-in_err-from
returns-in_err-from g c =
    let p = err_from_is_err_and c.from_residual.result c.from_residual.ensures.1 in
    let v = c.args.view.now in
    let s = alone (g.C.Catalog.tables c.args.catalog.now) (g.C.Catalog.views c.args.catalog.now) in
    rw (p.1, p.2) (from_refused c.args.name.now v (view_walk s v) c.in_err-from.field-0.0 c.in_err-from.ensures)

pub returns : goal.returns
returns g c =
    let v = c.args.view.now in
    let s = alone (g.C.Catalog.tables c.args.catalog.now) (g.C.Catalog.views c.args.catalog.now) in
    viewed c.args.name.now v (view_walk s v) (shown_from c.in_ok-from.from) c.bind_view_over.result c.in_ok-from.ensures c.bind_view_over.ensures
