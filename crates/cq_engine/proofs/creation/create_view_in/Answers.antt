use Rattle.std.proofs.Common.{ap, subst, sym}
use Rattle.cq_views.specs.declared.kept_view.KeptView.{KeptView}
use Rattle.cq_views_model.specs.Query.{CanBeKept}
use Rattle.cq_engine_tables.specs.HeldTables.{tables_of}
use Rattle.cq_engine_tables.specs.Views.{NamedView}
use Rattle.cq_engine.specs.Views.{IsBuilt}
use Rattle.cq_engine.proofs.creation.create_view_in.Goals as goal

pub new-requires : goal.new-requires
new-requires c = subst CanBeKept (sym c.in_ok-state.ensures.is_of) c.requires.can_build.fits.can

pub returns-clause-built : goal.returns-clause-built
returns-clause-built c = record {
  view = c.new.result;
  behind = c.in_ok-push.ensures.items;
  columns_are = ap (λ (v : NamedView). v.columns) c.new.ensures;
  built = subst (λ (v : KeptView). IsBuilt (tables_of c.args.tables.now) c.args.query c.args.now v) (sym (ap (λ (v : NamedView). v.kept) c.new.ensures)) c.in_ok-state.ensures;
}
