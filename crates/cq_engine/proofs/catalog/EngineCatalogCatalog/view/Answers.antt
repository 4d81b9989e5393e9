use Rattle.std.proofs.Common.{Some, length, sym, ap, ◌∙◌}
use Rattle.cq_model.specs.declared.query.Query.{Query}
use Rattle.cq_model.specs.Views.{sources_of}
use Rattle.std.specs.Prelude.{option_map, unwrap_or}
use Rattle.cq_model.specs.declared.query.Source.TheVariants.{View}
use Rattle.cq_binder_rules.specs.Scopes.{from_view}
use Rattle.cq_model_state.specs.State.{view_place}
use Rattle.cq_engine_tables.specs.Views.{NamedView, view_of, views_of}
use Rattle.cq_engine.proofs.Kept.{view_absent}
use Rattle.cq_engine_tables.proofs.Named.{view_there}
use Rattle.cq_engine.proofs.catalog.EngineCatalogCatalog.view.Goals as goal

pub returns-in_default : goal.returns-in_default
returns-in_default c =
    let views = views_of c.self.inside.views.now in
    let name = c.args.name.now in
    rw (← c.self.view_is) (sym (ap (option_map (λ v. from_view v (unwrap_or (view_place name views) 0))) (view_absent name views (sym c.in_default.ensures))))

pub returns : goal.returns
returns c =
    let views = c.self.inside.views.now in
    let name = c.args.name.now in
    let place = c.in-Some.place in
    let v = c.index-self-place.result in
    let found = sym c.in-Some.ensures in
    let there = view_there name views place found v c.index-self-place.is ∙ ap (λ (u : NamedView). Some (view_of u)) c.index-self-place.is in
    let told = c.base_count.ensures ∙ ap (λ (q : Query). length (sources_of q)) c.query.ensures in
    rw (← c.self.view_is)
    ((λ i. Some (record { known = c.name.ensures i; columns = c.columns.ensures i; sizes = c.in_ok-column_sizes.ensures i; source = View place; bases = told i }))
    ∙ sym (λ i. option_map (λ w. from_view w (unwrap_or (found i) 0)) (there i)))
