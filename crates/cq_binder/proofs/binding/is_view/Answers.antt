use Rattle.std.proofs.Common.{◌∙◌, ap}
use Rattle.std.specs.Prelude.{is_some}
use Rattle.cq_binder_queries.proofs.Found.{has_place}
use Rattle.cq_binder.proofs.binding.is_view.Goals as goal

pub returns : goal.returns
returns g c = c.is_some.ensures ∙ ap is_some c.view_place.ensures ∙ has_place c.args.name.now (g.C.Catalog.views c.args.catalog.now)
