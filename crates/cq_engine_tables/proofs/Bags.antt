-- The bags of tables: stored rows, few enough, none of them less than never.
use Rattle.std.proofs.Common.{◌≤◌, List, [], ◌∷◌, length, arith}
use Rattle.std.specs.List.{AllByRecursion}
use Rattle.cq_values.specs.Value.{Row}
use Rattle.cq_model_bags.specs.Bag.{once_each}
use Rattle.cq_model_laws.proofs.Positives.{once_each-bag}
use Rattle.cq_model.specs.Sizes.{IsStored}
use Rattle.cq_model.specs.declared.query.Source.{Source}
use Rattle.cq_model.specs.declared.query.Source.TheVariants.{Table, View}
use Rattle.cq_model_state.specs.Fitting.{AreFitting, AreLimited, rows_limit}
use Rattle.cq_model_state.specs.State.{TableOf}
use Rattle.cq_sides_weights.specs.Held.{sizes}
use Rattle.cq_deltas_joins.specs.Steps.{AreStored}
use Rattle.cq_views.proofs.Taking.{sizes-once_each}
use Rattle.cq_views_state.specs.State.{AreBags}
use Rattle.cq_engine_tables.specs.Views.{bags_in}
use Rattle.cq_engine_tables.proofs.Rows.{rows_have}
use Rattle.cq_engine_tables.proofs.Stored.{tables_stored}

-- rows that are there once each are stored where the rows are
pub stored-once_each : (rows : List Row) → AllByRecursion IsStored rows → AreStored (once_each rows)
stored-once_each [] stored = tt
stored-once_each (r ∷ rows) stored = (stored.0, stored-once_each rows stored.1)

module _ (tables : List TableOf) where
  pub bags_are : AreBags (bags_in tables)
  bags_are (Table n) = once_each-bag _
  bags_are (View place) = once_each-bag []

  pub bags_stored : AreFitting tables → (source : Source) → AreStored (bags_in tables source)
  bags_stored fitting (Table n) = stored-once_each _ (rows_have (λ rs. AllByRecursion IsStored rs) tt tables n (tables_stored tables fitting))
  bags_stored fitting (View place) = tt

  pub bags_few : AreLimited rows_limit tables → (source : Source) → sizes (bags_in tables source) ≤ rows_limit
  bags_few few (Table n) = few_once _ (rows_have (λ rs. length rs ≤ rows_limit) (omega arith) tables n few)
    where
      few_once : (rows : List Row) → length rows ≤ rows_limit → sizes (once_each rows) ≤ rows_limit
      few_once rows h = omega (arith, sizes-once_each rows, h)
  bags_few few (View place) = omega arith
