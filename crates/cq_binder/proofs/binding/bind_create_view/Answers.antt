use Rattle.std.proofs.Common.{◌≡◌, false, rules}
use Rattle.cq_model_state.specs.State.{is_taken}
use Rattle.cq_binder_queries.specs.Catalog.{alone}
use Rattle.cq_binder.proofs.Creating.{view_created}
use Rattle.cq_binder.proofs.binding.bind_create_view.Goals as goal

pub returns : goal.returns
returns g c =
    let tables = g.C.Catalog.tables c.args.catalog.now in
    let views = g.C.Catalog.views c.args.catalog.now in
    let free : is_taken c.args.name.now (alone tables views) ≡ false = search rules in
    view_created c.args.name.now c.args.view.now tables views free c.bind_view.result c.bind_view.ensures
