-- A view that is right in a history shows what its query means on the tables at its epoch.
use Rattle.std.proofs.Common.{ℕ}
use Rattle.std.specs.List.{AllByRecursion}
use Rattle.cq_model_bags.specs.Bag.{SameBag, once_each}
use Rattle.cq_model_bags.proofs.Bags.{same-sym, same-trans}
use Rattle.cq_model_bags.proofs.Lists.{all-of, all-weaker}
use Rattle.cq_model.specs.Meaning.{Tables, meaning}
use Rattle.cq_model.specs.Views.{sources_of}
use Rattle.cq_model_laws.proofs.Chains.{SameSources}
use Rattle.cq_model_laws.proofs.Meanings.{meaning-same}
use Rattle.cq_model_laws.proofs.Ranges.{range-same}
use Rattle.cq_model_state.specs.State.{State}
use Rattle.cq_deltas_joins.specs.Steps.{AreStored}
use Rattle.cq_views.specs.Laws.{StandingDependsOnSources}
use Rattle.cq_views.specs.Shown.{CanShow, Suits}
use Rattle.cq_views.specs.State.{StandsFor}
use Rattle.cq_engine_tables.proofs.Crossed.{crossed_few}
use Rattle.cq_engine_tables.proofs.Wide.{all-widths, width_of}
use Rattle.cq_engine_tables.specs.Views.{IsRight, NamedView}
use Rattle.cq_engine_queue.specs.Counts.{bags_at}
use Rattle.cq_engine_queue.specs.History.{IsHistory}
use Rattle.cq_engine_queue.specs.Shown.{ShowsEpoch}
use Rattle.cq_engine_queue.proofs.Reaching.{are_held, held, held_bags, held_same, held_wide, sources-there}

module _ (law : StandingDependsOnSources) (s : State) (history : IsHistory s) (v : NamedView) (right : IsRight s v) where
  abbrev epoch : ℕ
  epoch = v.kept.state.epoch

  abbrev rows : Tables
  rows = held s history epoch right.time.kept right.time.reached

  -- the tables at its epoch have the bags of few rows
  same : SameSources rows (bags_at s epoch) (sources_of v.kept.query)
  same = sources-there s (λ x. SameBag (rows x) (bags_at s epoch x)) (held_same s history epoch right.time.kept right.time.reached) (sources_of v.kept.query) v.kept.widths right.wide

  turned : SameSources (bags_at s epoch) rows (sources_of v.kept.query)
  turned = all-weaker (λ x. SameBag (rows x) (bags_at s epoch x)) (λ x. SameBag (bags_at s epoch x) (rows x)) (λ x e. same-sym (rows x) (bags_at s epoch x) e) (sources_of v.kept.query) same

  -- for which it stands
  suits : Suits v.kept rows
  suits = record {
    stands = law v.kept (bags_at s epoch) rows turned right.stands;
    columns = record {
      width = width_of s.tables;
      from = all-widths s.tables (sources_of v.kept.query) v.kept.widths right.wide;
      rows = held_wide s history epoch right.time.kept right.time.reached;
      bags = held_bags s history epoch right.time.kept right.time.reached;
    };
  }

  pub shows-epoch : ShowsEpoch s v
  shows-epoch =
      let q = v.kept.query in
      let there = are_held s history epoch right.time.kept right.time.reached in
      let range = range-same q rows (bags_at s epoch) same in
      record {
        can = record {
          can = right.fits.can;
          tables = rows;
          stands = suits.stands;
          few = crossed_few rows there.few (sources_of q) right.fits.few;
          stored = all-of (λ x. AreStored (rows x)) there.stored (sources_of q);
          bags = there.bags;
        };
        rows = λ given are. same-trans (once_each given) (meaning q rows) (meaning q (bags_at s epoch)) (are rows suits) (meaning-same q rows (bags_at s epoch) same);
        shown = λ told. range.0 (told rows suits);
        hidden = λ none can. none rows suits (range.1 can);
      }
