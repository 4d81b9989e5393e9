-- A view that is being built.
use Rattle.std.specs.Prelude.{◌≡◌}
use Rattle.cq_model.specs.Meaning.{Tables}
use Rattle.cq_views_model.specs.Delta.{changed}
use Rattle.cq_views_state.specs.State.{AreAsTold, AreBags, StandsFor}
use Rattle.cq_views_state.specs.declared.state.ViewState.{ViewState}

-- the view of the same query at the same epochs stands for the tables with these put in
pub record Gains (changes : Tables) (old new : ViewState) : Type 0 where
  pub query : new.query ≡ old.query
  pub widths : new.widths ≡ old.widths
  pub epoch : new.epoch ≡ old.epoch
  pub built : new.built ≡ old.built
  pub stands : (tables : Tables) → StandsFor old tables → AreAsTold old tables changes → AreBags (changed tables changes)
      → StandsFor new (changed tables changes)
