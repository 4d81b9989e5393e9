-- A view that stands for its tables, while changes wait for it and are put in.
use Rattle.std.proofs.Common.{◌≡◌, ◌∙◌, ℕ, ◌*◌, ◌<◌, ◌^◌, List, ◌++◌, map, refl, sym, ap, subst, arith}
use Rattle.std.specs.List.{AllByRecursion}
use Rattle.cq_model_bags.proofs.Bags.{filtered-respects}
use Rattle.cq_model_bags.proofs.Linears.{filtered-append}
use Rattle.cq_model_bags.proofs.Widths.{append-width}
use Rattle.cq_model_bags.specs.Bag.{Weighted, SameBag, filtered}
use Rattle.cq_model_bags.specs.Size.{IsClean}
use Rattle.cq_views_model.specs.Delta.{chain_change, changed}
use Rattle.cq_model_laws.proofs.Positives.{joined_rows-bag}
use Rattle.cq_model.specs.Meaning.{Tables, joined_rows, keeps}
use Rattle.cq_model.specs.declared.query.Source.{Source}
use Rattle.cq_deltas_joins.specs.Chains.{CanChange, IsChange, IsStill, rows_of, spans}
use Rattle.cq_deltas_joins.specs.WaitingChanges.{AreWaiting, Takes}
use Rattle.cq_deltas_joins.specs.Steps.{AreFew, AreStored, span}
use Rattle.cq_deltas_joins.specs.declared.chain.Chain.{Chain}
use Rattle.cq_deltas_joins.specs.declared.chain.Waiting.{Waiting}
use Rattle.cq_deltas_joins.specs.declared.step.Step.{Step}
use Rattle.cq_views_state.proofs.Behind.{seen-stands}
use Rattle.cq_views_state.proofs.Joining.{all-sources, chain-kept, chain-narrow, chain-sources, same-chain}
use Rattle.cq_views_state.proofs.Filtering.{given-filtered, passes}
use Rattle.cq_views_state.proofs.Limits.{rows-few, rows-stored}
use Rattle.cq_views_state.specs.Build.{Gains}
use Rattle.cq_views_state.specs.Last.{CanTakeIn, GoesOn, IsChangeOf, kept_rows, seen}
use Rattle.cq_views_model.specs.Query.{aggregates_of}
use Rattle.cq_views_state.specs.State.{AreAsTold, CanPrepare, IsWaiting, SameView, StandsFor, TakesIn, further}
use Rattle.cq_views_state.specs.declared.last.Last.{Last as Stored}
use Rattle.cq_views_state.specs.declared.last.LastChange.{LastChange}
use Rattle.cq_views_state.specs.declared.state.Pending.{Pending}
use Rattle.cq_views_state.specs.declared.state.ViewState.{ViewState}

module _ (v : ViewState) (changes : Tables) where
  -- what WHERE keeps of the joined rows changes by what it keeps of what the chain hands on
  pub kept-change : (given : Weighted) → IsChange v.chain changes given → (tables : Tables) → StandsFor v tables → AreAsTold v tables changes
      → SameBag (joined_rows v.query (changed tables changes)) (joined_rows v.query tables ++ kept_rows v.query given)
  kept-change given change tables stands wide =
      let keep = keeps v.query.filter in
      let old = rows_of v.chain tables in
      let kept = chain-kept v.query v.widths v.chain stands.is_of wide.width wide.told in
      let before : filtered keep old ≡ joined_rows v.query tables = kept tables wide.rows in
      let behind : filtered keep (rows_of v.chain (changed tables changes)) ≡ joined_rows v.query (changed tables changes) =
      kept (changed tables changes) (λ s. append-width (wide.width s) (tables s) (changes s) (wide.rows s) (wide.more s)) in
      let parts : filtered keep (old ++ given) ≡ joined_rows v.query tables ++ kept_rows v.query given =
      filtered-append keep old given ∙ ap (λ (xs : Weighted). xs ++ kept_rows v.query given) before in
      subst (λ (xs : Weighted). SameBag xs (joined_rows v.query tables ++ kept_rows v.query given)) behind
      (subst (λ (xs : Weighted). SameBag (filtered keep (rows_of v.chain (changed tables changes))) xs) parts
      (filtered-respects keep (rows_of v.chain (changed tables changes)) (old ++ given) (change tables stands.sides)))

-- ---- a view that changes
module _ (v : ViewState) (changes : Tables) (can : CanPrepare v changes) where
  abbrev sources : List Source
  sources = map (λ s. s.source) v.chain.steps.items

  -- its joins can change
  pub can-change : CanChange v.chain changes
  can-change =
      let is = can.stands.is_of in
      let tables = can.tables in
      let same = chain-sources v.query v.widths v.chain is in
      let few : span (tables v.query.first) (changes v.query.first) * spans tables changes (map (λ j. j.source) v.query.joins) < 2 ^ 127 = can.few in
      let here : span (tables v.chain.first) (changes v.chain.first) * spans tables changes sources < 2 ^ 127 =
      subst (λ (s : Source). span (tables s) (changes s) * spans tables changes sources < 2 ^ 127) (sym is.first)
      (subst (λ (ss : List Source). span (tables v.query.first) (changes v.query.first) * spans tables changes ss < 2 ^ 127) (sym same) few) in
      let at : (all : Tables) → AllByRecursion (λ s. AreStored (all s)) (map (λ j. j.source) v.query.joins) → AllByRecursion (λ s. AreStored (all s.source)) v.chain.steps.items =
      λ all stored. all-sources (λ s. AreStored (all s)) (λ (s : Step). s.source) v.chain.steps.items (subst (λ (ss : List Source). AllByRecursion (λ s. AreStored (all s)) ss) (sym same) stored) in
      record {
        tables = tables;
        stands = can.stands.sides;
        few = omega (arith, here);
        first = (
          subst (λ (s : Source). AreStored (tables s)) (sym is.first) can.stored.0.0,
          subst (λ (s : Source). AreStored (changes s)) (sym is.first) can.stored.1.0,
        );
        rows = at tables can.stored.0.1;
        changes_stored = at changes can.stored.1.1;
        narrow = chain-narrow v.query v.widths v.chain is can.can.filter;
      }

  -- what stands behind the joins can take these in
  pub can-take_in : (given : Weighted) → IsChange v.chain changes given → IsClean given → AreFew given → CanTakeIn v.query v.last given
  can-take_in given change clean few =
      let wide = can.wide in
      let is = can.stands.is_of in
      let tables = can.tables in
      let passes = passes wide.width tables changes wide.rows wide.more v.chain can.stands.sides in
      let own = given-filtered wide.width tables changes wide.rows wide.more v.chain can.stands.sides given change in
      let whole : SameBag given (filtered passes (chain_change tables changes (tables v.query.first) (changes v.query.first) v.query.joins)) =
      subst (λ (xs : Weighted). SameBag given (filtered passes xs)) (λ i. chain_change tables changes (tables (is.first i)) (changes (is.first i)) (is.joins i)) own in
      record {
        xs = joined_rows v.query tables;
        stands = can.stands.last;
        few = rows-few v.query tables changes passes given clean whole can.countable;
        rows = (rows-stored v.query tables can.stored.0, few.stored);
      }

  -- and then they wait
  pub all-wait : (given : Weighted) → IsChange v.chain changes given → (c : Chain) (l : Stored) (ticks : ℕ) (waiting : Waiting) (more : LastChange) → IsChangeOf v.query (kept_rows v.query given) l more
      → AreWaiting v.chain changes c waiting → IsWaiting v changes (record v { chain = c; last = l; ticks = ticks }) (record { waiting = waiting; change = more })
  all-wait given change c l ticks waiting more is wait = λ tables stands wide. record {
    rows = kept_rows v.query given;
    given = kept-change v changes given change tables stands wide;
    last = is;
    sides = wait tables stands.sides;
  }

module _ (v : ViewState) (c : Chain) (l : Stored) where
  -- where nothing is changed that is seen of the joins and of what stands behind them, the view is the same
  pub same-view : IsStill v.chain c → seen (aggregates_of v.query) l ≡ seen (aggregates_of v.query) v.last → (ticks : ℕ) → SameView v (record v { chain = c; last = l; ticks = ticks })
  same-view still same ticks = record {
    query = refl;
    widths = refl;
    epoch = refl;
    built = refl;
    sides = still;
    last = same;
    stands = λ tables stands. record {
      is_of = same-chain v.query v.widths v.chain c still.first still.condition still.joins stands.is_of;
      sides = still.stands tables stands.sides;
      last = seen-stands v.query v.last l same (joined_rows v.query tables) stands.last;
    };
  }

  -- with what waited put in, the view stands for the changed tables
  pub all-taken : (pending : Pending) → Takes v.chain pending.waiting.joins.items c → GoesOn v.last pending.change l
      → TakesIn v pending (record v { chain = c; last = l })
  all-taken pending takes on = λ tables changes stands waits bags. record {
    is_of = same-chain v.query v.widths v.chain c takes.first takes.condition takes.joins stands.is_of;
    sides = takes.stands tables changes stands.sides waits.sides;
    last =
        on v.query (joined_rows v.query tables) waits.rows (joined_rows v.query (changed tables changes)) waits.last waits.given
        (joined_rows-bag v.query (changed tables changes) bags) stands.last;
  }

-- so it does one epoch on
pub taken-further : (v w : ViewState) (pending : Pending) → TakesIn v pending w → TakesIn v pending (further w)
taken-further v w pending takes tables changes stands waits bags =
    let all = takes tables changes stands waits bags in
    record { is_of = all.is_of; sides = all.sides; last = all.last }

-- what was prepared of changes and then put in is gained
pub gained : (v : ViewState) (changes : Tables) (w x : ViewState) (pending : Pending) → SameView v w → IsWaiting v changes w pending → TakesIn w pending x
    → x.query ≡ w.query → x.widths ≡ w.widths → x.epoch ≡ v.epoch → x.built ≡ w.built → Gains changes v x
gained v changes w x pending still waits takes query widths epoch built = record {
  query = query ∙ still.query;
  widths = widths ∙ still.widths;
  epoch = epoch;
  built = built ∙ still.built;
  stands = λ tables stands wide bags. takes tables changes (still.stands tables stands) (waits tables stands wide) bags;
}
