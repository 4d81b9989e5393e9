-- A view that is made ready for a change, and follows it.
use Rattle.std.proofs.Common.{◌≡◌, ◌∙◌, ◌+◌, ◌*◌, ◌<◌, ◌≤◌, ◌^◌, ℕ, true, false, List, [], ◌∷◌, length, Option, Some, None, refl, sym, ap, arith}
use Rattle.std.specs.List.{AllByRecursion}
use Rattle.std.proofs.lemmas.List.{append-nil}
use Rattle.std.proofs.lemmas.Nat.{mul-le}
use Rattle.cq_model_bags.specs.Bag.{SameBag}
use Rattle.cq_model_bags.proofs.Bags.{same-refl}
use Rattle.cq_model_bags.proofs.Lists.{all-of}
use Rattle.cq_deltas_joins.specs.Chains.{spans}
use Rattle.cq_deltas_joins.specs.Steps.{AreStored, span}
use Rattle.cq_model.specs.declared.query.Query.{Query}
use Rattle.cq_model.specs.declared.query.Source.{Source}
use Rattle.cq_model.specs.declared.query.Source.TheVariants.{Table}
use Rattle.cq_model.specs.Meaning.{Tables}
use Rattle.cq_model.specs.Views.{is_table, sources_of}
use Rattle.cq_model_state.specs.Fitting.{rows_limit}
use Rattle.cq_model_state.specs.State.{ChangeOf}
use Rattle.cq_sides_weights.specs.Held.{sizes}
use Rattle.cq_views.specs.Laws.{CountsWithinWork, RisesWhereChanged, StandingDependsOnSources}
use Rattle.cq_views.specs.State.{CanPrepare, StandsFor}
use Rattle.cq_views.proofs.Taking.{only-have}
use Rattle.cq_views_model.specs.Delta.{changed}
use Rattle.cq_views_model.specs.Query.{reads}
use Rattle.cq_views_state.specs.declared.state.Pending.{Pending}
use Rattle.cq_engine_tables.proofs.Crossed.{crossed_few}
use Rattle.cq_engine_tables.proofs.Rows.{unread}
use Rattle.cq_engine_tables.specs.Taking.{CountsReady, HasTaken, IsLed, IsReady, IsSame}
use Rattle.cq_engine_tables.specs.Views.{NamedView}
use Rattle.cq_engine_queue.proofs.Counting.{counts-change}
use Rattle.cq_engine_queue.proofs.Unread.{others}
use Rattle.cq_engine_queue.specs.Taking.{CanTakeIn, TakesChange, changes_by}

-- ---- Views that can be made ready
module _ (tables changes : Tables) (each : (source : Source) → span (tables source) (changes source) ≤ 3 * 2 ^ 30 + 1) where
  more_spans : (source : Source) (sources : List Source) (m : ℕ) → spans tables changes sources ≤ m → spans tables changes (source ∷ sources) ≤ (3 * 2 ^ 30 + 1) * m
  more_spans source sources m h = mul-le (span (tables source) (changes source)) (spans tables changes sources) (3 * 2 ^ 30 + 1) m (each source) h

  -- at most four sources of few rows are few
  pub spans_few : (sources : List Source) → length sources ≤ 4 → spans tables changes sources < 2 ^ 127
  spans_few [] h = omega arith
  spans_few (a ∷ []) h = omega (arith, more_spans a [] 1 (omega arith))
  spans_few (a ∷ b ∷ []) h = omega (arith, more_spans a (b ∷ []) (2 ^ 32) (omega (arith, more_spans b [] 1 (omega arith))))
  spans_few (a ∷ b ∷ c ∷ []) h =
      let last : spans tables changes (c ∷ []) ≤ 2 ^ 32 = omega (arith, more_spans c [] 1 (omega arith)) in
      let two : spans tables changes (b ∷ c ∷ []) ≤ 2 ^ 64 = omega (arith, more_spans b (c ∷ []) (2 ^ 32) last) in
      omega (arith, more_spans a (b ∷ c ∷ []) (2 ^ 64) two)
  spans_few (a ∷ b ∷ c ∷ d ∷ []) h =
      let last : spans tables changes (d ∷ []) ≤ 3 * 2 ^ 30 + 1 = omega (arith, more_spans d [] 1 (omega arith)) in
      let two : spans tables changes (c ∷ d ∷ []) ≤ 10 * 2 ^ 60 = omega (arith, more_spans c (d ∷ []) (3 * 2 ^ 30 + 1) last) in
      let three : spans tables changes (b ∷ c ∷ d ∷ []) ≤ 31 * 2 ^ 90 = omega (arith, more_spans b (c ∷ d ∷ []) (10 * 2 ^ 60) two) in
      omega (arith, more_spans a (b ∷ c ∷ d ∷ []) (31 * 2 ^ 90) three)
  spans_few (a ∷ b ∷ c ∷ d ∷ e ∷ sources) h = absurd (omega (arith, h))

-- a view that can take a change in can be made ready for it
pub can-prepare : (v : NamedView) (c : ChangeOf) → CanTakeIn v c → CanPrepare v.kept (changes_by c)
can-prepare v c can = record {
  can = can.fits.can;
  tables = can.tables;
  stands = can.stands;
  few = spans_few can.tables (changes_by c) small (sources_of v.kept.query) can.fits.few;
  countable = record {
    before = crossed_few can.tables can.held.few (sources_of v.kept.query) can.fits.few;
    behind = can.behind;
    same = can.same;
    after = crossed_few can.behind can.few_behind (sources_of v.kept.query) can.fits.few;
  };
  stored = (
    all-of (λ s. AreStored (can.tables s)) can.held.stored (sources_of v.kept.query),
    all-of (λ s. AreStored (changes_by c s)) (only-have AreStored (Table c.table) c.rows can.stored tt) (sources_of v.kept.query),
  );
}
  where
    small : (source : Source) → span (can.tables source) (changes_by c source) ≤ 3 * 2 ^ 30 + 1
    small source = omega (arith, can.held.few source, only-have (λ xs. sizes xs ≤ 2 * rows_limit) (Table c.table) c.rows can.few (omega arith) source)

-- ---- A view that took in what waited
-- a view is led from where nothing of it had changed
pub led_from : (v w x : NamedView) → IsSame v w → IsLed w x → IsLed v x
led_from v w x s led = record {
  name = led.name ∙ s.name;
  columns = led.columns ∙ s.columns;
  query = led.query ∙ s.kept.query;
  widths = led.widths ∙ s.kept.widths;
  built = led.built ∙ s.kept.state.built;
  epoch = led.epoch ∙ ap (λ (e : ℕ). e + 1) s.kept.state.epoch;
}

module _ (law : StandingDependsOnSources) (within : CountsWithinWork) (rises : RisesWhereChanged) (c : ChangeOf) where
  unchanged_all : (tables : Tables) (sources : List Source) → AllByRecursion (λ s. is_table c.table s ≡ false) sources → AllByRecursion (λ s. SameBag (tables s) (changed tables (changes_by c) s)) sources
  unchanged_all tables [] other = tt
  unchanged_all tables (s ∷ sources) other = (rw (others c s other.0, append-nil (tables s)) (same-refl (tables s)), unchanged_all tables sources other.1)

  -- a view that is ready stands for the changed tables once it has taken in what waited
  pub takes : (v w x : NamedView) (p : Option Pending) → IsSame v w → ((tables : Tables) → StandsFor v.kept tables → IsReady c.table tables (changes_by c) w p) → CountsReady (changes_by c) v w p → HasTaken w p x
      → TakesChange c v x
  takes v w x None s ready counted taken = record {
    led = led_from v w x s taken.led;
    stands = λ tables stands bags.
        let free : reads c.table x.kept.query ≡ false = ap (λ (q : Query). reads c.table q) taken.led.query ∙ ready tables stands in
        law x.kept tables (changed tables (changes_by c)) (unchanged_all tables (sources_of x.kept.query) (unread c.table (sources_of x.kept.query) free)) (taken.goes tables (s.kept.stands tables stands));
    counts = counts-change within rises c v w x None s ready counted taken;
  }
  takes v w x (Some p) s ready counted taken = record {
    led = led_from v w x s taken.led;
    stands = λ tables stands bags.
        let is : reads c.table v.kept.query ≡ true = ap (λ (q : Query). reads c.table q) (sym s.kept.query) ∙ (ready tables stands).0 in
        taken.goes tables (changes_by c) (s.kept.stands tables stands) (ready tables stands).1 (bags is);
    counts = counts-change within rises c v w x (Some p) s ready counted taken;
  }
