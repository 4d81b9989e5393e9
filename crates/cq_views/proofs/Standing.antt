-- A view that stands for its tables, while changes wait for it and are put in.
use Rattle.std.proofs.Common.{◌≡◌, ◌∙◌, ◌<◌, ◌≤◌, ◌^◌, List, ◌++◌, refl, sym, ap, subst, arith}
use Rattle.std.specs.List.{AllByRecursion}
use Rattle.std.specs.Prelude.{IfOk, OnOk, Ok, Err, Result}
use Rattle.cq_model_bags.proofs.Bags.{same-append, same-refl, same-sym, same-trans}
use Rattle.cq_model_bags.specs.Bag.{SameBag}
use Rattle.cq_deltas_joins.proofs.Storing.{stored-merged}
use Rattle.cq_deltas_joins.proofs.WholeChains.{still-itself}
use Rattle.cq_deltas_joins.specs.Chains.{spans}
use Rattle.cq_deltas_joins.specs.Work as chains
use Rattle.cq_deltas_joins.specs.Steps.{AreStored, span}
use Rattle.cq_views_model.specs.Delta.{changed}
use Rattle.cq_views.proofs.Bags.{cut-bags, cut-changed, cut-same, cut-sizes, cut-stored}
use Rattle.cq_views.specs.Cut.{AreCut, cut_bags, cut_widths, entry_of}
use Rattle.cq_views.specs.Laws.{StandingDependsOnSources}
use Rattle.cq_views.specs.State.{CanPrepare, CountsPairs, IsWaiting, SameView, TakesIn, narrow_query}
use Rattle.cq_views.specs.declared.kept_view.KeptView.{KeptView}
use Rattle.cq_model.specs.Meaning.{Tables}
use Rattle.cq_model.specs.Views.{sources_of}
use Rattle.cq_model.specs.declared.query.Query.{Query}
use Rattle.cq_model.specs.declared.query.Source.{Source}
use Rattle.cq_views_columns.specs.Narrow.{IsNarrowOf}
use Rattle.cq_deltas_joins.proofs.Sizes.{sizes-least}
use Rattle.cq_views.proofs.Taking.{crossed-less, spans-less}
use Rattle.cq_views.proofs.Told.{all-wide, changes-wide}
use Rattle.cq_views_state.proofs.SameBags.{standing-by_sources}
use Rattle.cq_views_state.specs.Work.{CountsRows, work_of}
use Rattle.cq_views_state.specs.State.{AreBags, AreCountable, StayCountable}
use Rattle.cq_views_state.specs.State as inner
use Rattle.cq_views_state.specs.declared.state.Pending.{Pending}
use Rattle.cq_views_state.specs.declared.state.ViewState.{ViewState}
use Rattle.cq_model_bags.proofs.Lists.{all-of, all-weaker}
use Rattle.cq_model_bags.proofs.Positives.{bag-same}

-- ---- states of the same query
module _ (v : KeptView) (w : ViewState) (same : w.query ≡ v.state.query) (told : w.widths ≡ v.state.widths) where
  -- the query is that over the same columns
  narrow-still : IsNarrowOf v.query v.widths (narrow_query v) → IsNarrowOf v.query v.widths (record { query = w.query; columns = v.columns })
  narrow-still is = subst (λ (q : Query). IsNarrowOf v.query v.widths (record { query = q; columns = v.columns })) (sym same) is

  -- and its sources are as wide
  widths-still : v.state.widths ≡ cut_widths v.columns v.state.query → w.widths ≡ cut_widths v.columns w.query
  widths-still is = told ∙ is ∙ ap (cut_widths v.columns) (sym same)

  -- with what waited put in, the view stands for the changed tables
  pub all-taken : (pending : Pending) → inner.TakesIn v.state pending w → TakesIn v pending (record v { state = w })
  all-taken pending takes tables changes stands waits bags =
      let columns = v.columns in
      let old = cut_bags columns tables in
      let now = cut_bags columns (changed tables changes) in
      let alike : (s : Source) → SameBag (changed old waits.cut s) (now s) =
      λ s. subst (λ (ts : Tables). SameBag (changed old waits.cut s) (ts s)) (sym (cut-changed columns tables changes))
      (same-append (old s) (old s) (waits.cut s) (cut_bags columns changes s) (same-refl (old s)) (waits.same.at s)) in
      let all : AreBags (changed old waits.cut) = λ s. bag-same (changed old waits.cut s) (now s) (alike s) (cut-bags columns (changed tables changes) bags s) in
      record {
        narrow = narrow-still stands.narrow;
        widths = widths-still stands.widths;
        rows = standing-by_sources w (changed old waits.cut) now (all-of (λ s. SameBag (changed old waits.cut s) (now s)) alike (sources_of w.query)) (takes old waits.cut stands.rows waits.waits all);
      }

-- where nothing changed that is seen of the state, nothing did that is seen of the view
pub same-view : (v : KeptView) (w : ViewState) → inner.SameView v.state w → SameView v (record v { state = w })
same-view v w same = record {
  query = refl;
  widths = refl;
  columns = refl;
  state = same;
  stands = λ tables stands. record {
    narrow = narrow-still v w same.query same.widths stands.narrow;
    widths = widths-still v w same.query same.widths stands.widths;
    rows = same.stands (cut_bags v.columns tables) stands.rows;
  };
}

-- what follows of a value and of what holds beside it
pub ok-both : {T E Q : Type 0} {P R : T → Type 0} (r : Result T E) → ((x : T) → P x → Q → R x) → IfOk r P → OnOk r Q → IfOk r R
ok-both (Ok x) f p q = f x p q
ok-both (Err e) f p q = tt

-- a view is as it is
pub same-itself : (v : KeptView) → SameView v v
same-itself v = record {
  query = refl;
  widths = refl;
  columns = refl;
  state = record { query = refl; widths = refl; epoch = refl; built = refl; sides = still-itself v.state.chain; last = refl; stands = λ tables h. h };
  stands = λ tables h. h;
}

-- ---- a view that changes
module _ (v : KeptView) (changes : Tables) (can : CanPrepare v changes) where
  module _ (cut : Tables) (are : AreCut v.columns changes cut) where
    less : (s : Source) → span (cut_bags v.columns can.tables s) (cut s) ≤ span (can.tables s) (changes s)
    less s =
        let x = entry_of v.columns s in
        omega (arith, cut-sizes x (can.tables s), cut-sizes x (changes s), sizes-least (cut s) (cut_bags v.columns changes s) (are.clean s) (are.same.at s))

    few : spans (cut_bags v.columns can.tables) cut (sources_of v.query) < 2 ^ 127
    few = omega (arith, can.few, spans-less (cut_bags v.columns can.tables) cut can.tables changes less (sources_of v.query))

    -- rows that are cut are no more, whatever is joined
    cut-countable : (tables : Tables) → AreCountable (sources_of v.query) tables → AreCountable (sources_of v.query) (cut_bags v.columns tables)
    cut-countable tables h = omega (arith, h, crossed-less (cut_bags v.columns tables) tables (λ s. cut-sizes (entry_of v.columns s) (tables s)) (sources_of v.query))

    -- and tables with the bags of the changed ones have those of the changed ones that are cut
    cut-behind : (s : Source) → SameBag (can.countable.behind s) (changed can.tables changes s) → SameBag (cut_bags v.columns can.countable.behind s) (changed (cut_bags v.columns can.tables) cut s)
    cut-behind s same =
        let old = cut_bags v.columns can.tables s in
        let more = cut_bags v.columns changes s in
        same-trans (cut_bags v.columns can.countable.behind s) (old ++ more) (old ++ cut s)
        (subst (λ (ts : Tables). SameBag (cut_bags v.columns can.countable.behind s) (ts s)) (cut-changed v.columns can.tables changes)
        (cut-same (entry_of v.columns s) (can.countable.behind s) (changed can.tables changes s) same))
        (same-append old old more (cut s) (same-refl old) (same-sym (cut s) more (are.same.at s)))

    countable : StayCountable (sources_of v.query) (cut_bags v.columns can.tables) cut
    countable = record {
      before = cut-countable can.tables can.countable.before;
      behind = cut_bags v.columns can.countable.behind;
      same = all-weaker (λ s. SameBag (can.countable.behind s) (changed can.tables changes s)) (λ s. SameBag (cut_bags v.columns can.countable.behind s) (changed (cut_bags v.columns can.tables) cut s)) cut-behind (sources_of v.query) can.countable.same;
      after = cut-countable can.countable.behind can.countable.after;
    }

    -- and the state can be made ready for them
    pub can-prepare : inner.CanPrepare v.state cut
    can-prepare =
        let is = can.stands.narrow in
        let before = all-weaker (λ s. AreStored (can.tables s)) (λ s. AreStored (cut_bags v.columns can.tables s)) (λ s h. cut-stored (entry_of v.columns s) (can.tables s) h) (sources_of v.query) can.stored.0 in
        let after = all-weaker (λ s. AreStored (changes s)) (λ s. AreStored (cut s))
        (λ s h. stored-merged (cut s) (cut_bags v.columns changes s) (are.clean s) (are.same.at s) (cut-stored (entry_of v.columns s) (changes s) h)) (sources_of v.query) can.stored.1 in
        record {
          can = is.kept can.can;
          tables = cut_bags v.columns can.tables;
          stands = can.stands.rows;
          wide = all-wide v can.tables cut can.stands.widths (changes-wide v.columns changes cut are);
          few = subst (λ (ss : List Source). spans (cut_bags v.columns can.tables) cut ss < 2 ^ 127) (sym is.sources) few;
          countable = subst (λ (ss : List Source). StayCountable ss (cut_bags v.columns can.tables) cut) (sym is.sources) countable;
          stored =
              subst (λ (ss : List Source). AllByRecursion (λ s. AreStored (cut_bags v.columns can.tables s)) ss × AllByRecursion (λ s. AreStored (cut s)) ss) (sym is.sources) (before, after);
        }

    module _ (w : ViewState) (pending : Pending) (waits : inner.IsWaiting v.state cut w pending) where
      -- with what waits for the state the changes wait for the view
      pub cut-waits : IsWaiting v changes (record v { state = w }) pending
      cut-waits tables stands = record {
        cut = cut;
        same = are.same;
        waits = waits (cut_bags v.columns tables) stands.rows (all-wide v tables cut stands.widths (changes-wide v.columns changes cut are));
      }

      -- and what the state counted was for them
      pub cut-counts : chains.CountsPairs v.state.chain cut w.chain → CountsRows v.state cut w → work_of v.state ≤ work_of w → CountsPairs v changes (record v { state = w }) pending
      cut-counts counts rows more = record { cut = cut; same = are.same; wide = changes-wide v.columns changes cut are; waits = waits; counts = counts; rows = rows; more = more }

-- ---- laws
pub standing-by_bags : StandingDependsOnSources
standing-by_bags v tables others same stands =
    let cuts = all-weaker (λ s. SameBag (tables s) (others s)) (λ s. SameBag (cut_bags v.columns tables s) (cut_bags v.columns others s)) (λ s h. cut-same (entry_of v.columns s) (tables s) (others s) h) (sources_of v.query) same in
    record {
      narrow = stands.narrow;
      widths = stands.widths;
      rows =
          standing-by_sources v.state (cut_bags v.columns tables) (cut_bags v.columns others)
          (subst (λ (ss : List Source). AllByRecursion (λ s. SameBag (cut_bags v.columns tables s) (cut_bags v.columns others s)) ss) (sym stands.narrow.sources) cuts) stands.rows;
    }
