-- Views at the present are backed: their tables are bags of stored rows, of which a join has not too many.
use Rattle.std.proofs.Common.{List}
use Rattle.std.specs.List.{AllByRecursion}
use Rattle.cq_deltas_joins.specs.Steps.{AreStored}
use Rattle.cq_model.specs.Views.{sources_of}
use Rattle.cq_model.specs.declared.query.Source.{Source}
use Rattle.cq_model.specs.declared.query.Source.TheVariants.{Table, View}
use Rattle.cq_model_state.specs.Fitting.{AreFitting, AreLimited, rows_limit}
use Rattle.cq_model_state.specs.State.{TableOf}
use Rattle.cq_engine_tables.specs.Views.{IsPresent, NamedView, bags_in}
use Rattle.cq_engine_tables.proofs.Bags.{bags_are, bags_few, bags_stored}
use Rattle.cq_engine_tables.proofs.Crossed.{crossed_few}
use Rattle.cq_engine_answers.specs.Gathered.{IsBacked, IsBackedAt}
use Rattle.cq_engine_answers.specs.Reading.{IsReadable}
use Rattle.cq_model_bags.proofs.Lists.{all-of, all-weaker}

-- ---- Views at the present
module _ (tables : List TableOf) (fitting : AreFitting tables) (few : AreLimited rows_limit tables) where
  -- one is backed by its tables
  pub backed : (v : NamedView) → IsPresent tables v → IsBacked v
  backed v present =
      let sources = sources_of v.kept.query in
      record {
        can = present.fits.can;
        tables = bags_in tables;
        stands = present.stands;
        stored = all-of (λ s. AreStored (bags_in tables s)) (bags_stored tables fitting) sources;
        bags = bags_are tables;
        few = crossed_few (bags_in tables) (bags_few tables few) sources present.fits.few;
      }

  -- so is each that the sources name
  module _ (views : List NamedView) where
    source_backed : (s : Source) → IsReadable tables views s → IsBackedAt views s
    source_backed (Table n) readable = tt
    source_backed (View place) readable = λ v at. backed v (readable v at)

    pub all_backed : (sources : List Source) → AllByRecursion (IsReadable tables views) sources → AllByRecursion (IsBackedAt views) sources
    all_backed = all-weaker (IsReadable tables views) (IsBackedAt views) source_backed
