-- Tables that a change is not of.
use Rattle.std.proofs.Common.{◌≡◌, false, [], refl, sym}
use Rattle.std.proofs.lemmas.Bool.{eqb-false, ne_eqb}
use Rattle.cq_model.specs.declared.query.Source.{Source}
use Rattle.cq_model.specs.declared.query.Source.TheVariants.{Table, View}
use Rattle.cq_model.specs.Views.{is_table}
use Rattle.cq_model_state.specs.State.{ChangeOf}
use Rattle.cq_engine_queue.specs.Taking.{changes_by}

-- no other table changes
pub others : (c : ChangeOf) (source : Source) → is_table c.table source ≡ false → changes_by c source ≡ []
others c (Table m) other = rw (ne_eqb c.table m (λ e. eqb-false m c.table other (sym e))) refl
others c (View place) other = refl
