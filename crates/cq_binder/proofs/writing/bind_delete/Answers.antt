use Rattle.std.proofs.Common.{ap, ◌∙◌}
use Rattle.std.proofs.lemmas.Result.{err_from_is_err_and}
use Rattle.cq_model_state.specs.State.{table_named}
use Rattle.cq_binder.proofs.Deleting.{deleted, where_decides, where_refused}
use Rattle.cq_binder_queries.proofs.Found.{table_there}
use Rattle.cq_binder.proofs.writing.bind_delete.Goals as goal

pub returns-in_err-where_on : goal.returns-in_err-where_on
returns-in_err-where_on g c =
    let p = err_from_is_err_and c.from_residual.result c.from_residual.ensures.1 in
    let tables = g.C.Catalog.tables c.args.catalog.now in
    let t = table_there c.in-Some.table (table_named c.args.name.now tables) (rw c.as_str.ensures at c.in-Some.ensures) in
    rw (p.1, p.2) (where_refused c.args.name.now c.args.condition.now tables (g.C.Catalog.views c.args.catalog.now) t.0 t.1 c.in_err-where_on.field-0.0 (c.in_err-where_on.ensures t.0 t.2))

pub returns : goal.returns
returns g c =
    let tables = g.C.Catalog.tables c.args.catalog.now in
    let t = table_there c.in-Some.table (table_named c.args.name.now tables) (rw c.as_str.ensures at c.in-Some.ensures) in
    let kept = c.in_ok-where_on.ensures t.0 t.2 in
    (where_decides c.args.name.now c.args.condition.now tables (g.C.Catalog.views c.args.catalog.now) t.0 t.1 ∙ kept.0, deleted c.args.name.now c.args.condition.now tables (g.C.Catalog.views c.args.catalog.now) t.0 t.1 c.in-Some.table.number c.in_ok-where_on.field-0 (ap (λ h. h.number) t.2) kept.1)
