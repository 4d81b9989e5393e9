use Rattle.std.proofs.Common.{ap, ◌∙◌}
use Rattle.std.proofs.lemmas.Result.{err_from_is_err_and}
use Rattle.cq_model_state.specs.State.{table_named}
use Rattle.cq_binder_queries.proofs.Found.{table_there}
use Rattle.cq_binder.proofs.Setting.{update_named, walk_decides, walk_refused}
use Rattle.cq_binder.proofs.updating.bind_update.Goals as goal

pub returns-in_err-assignments : goal.returns-in_err-assignments
returns-in_err-assignments g c =
    let p = err_from_is_err_and c.from_residual.result c.from_residual.ensures.1 in
    let tables = g.C.Catalog.tables c.args.catalog.now in
    let t = table_there c.in-Some.table (table_named c.args.name.now tables) (rw c.as_str.ensures at c.in-Some.ensures) in
    let m = rw c.as_slice-sets.ensures at c.in_err-assignments.ensures in
    rw (p.1, p.2) (walk_refused c.args.name.now c.args.sets.now c.args.condition.now tables (g.C.Catalog.views c.args.catalog.now) t.0 t.1 c.in_err-assignments.field-0.0 (m t.0 t.2))

pub returns : goal.returns
returns g c =
    let tables = g.C.Catalog.tables c.args.catalog.now in
    let t = table_there c.in-Some.table (table_named c.args.name.now tables) (rw c.as_str.ensures at c.in-Some.ensures) in
    let bound = rw c.as_slice-sets.ensures at c.in_ok-assignments.ensures in
    let parts = bound t.0 t.2 in (
      walk_decides c.args.name.now c.args.sets.now c.args.condition.now tables (g.C.Catalog.views c.args.catalog.now) t.0 t.1 ∙ parts.0,
      update_named c.args.name.now c.args.sets.now c.args.condition.now tables (g.C.Catalog.views c.args.catalog.now) t.0 t.1 c.in-Some.table.number _ _ (ap (λ h. h.number) t.2) parts.1.0 parts.1.1,
    )
