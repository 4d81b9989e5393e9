use Rattle.std.proofs.Common.{Some, sym, ap, ◌∙◌}
use Rattle.std.specs.Prelude.{option_map}
use Rattle.cq_model.specs.declared.query.Query.{Query}
use Rattle.cq_engine_tables.specs.Views.{NamedView, view_of, views_of}
use Rattle.cq_engine.proofs.Kept.{view_absent}
use Rattle.cq_engine_tables.proofs.Named.{view_there}
use Rattle.cq_engine.proofs.catalog.EngineCatalog.query.Goals as goal

pub returns-in_err-place : goal.returns-in_err-place
returns-in_err-place c =
    let views = views_of c.self.inside.views.now in
    rw (← c.self.view_is, c.from_residual.ensures) (sym (ap (option_map (λ v. v.query)) (view_absent c.args.name.now views (sym c.in_err-place.ensures))))

pub returns : goal.returns
returns c =
    let v = c.index-self-place.result in
    let there = view_there c.args.name.now c.self.inside.views.now c.in_ok-place.place (sym c.in_ok-place.ensures) v c.index-self-place.is ∙ ap (λ (u : NamedView). Some (view_of u)) c.index-self-place.is in
    rw (← c.self.view_is) (ap (λ (q : Query). Some q) c.query.ensures ∙ sym (ap (option_map (λ w. w.query)) there))
