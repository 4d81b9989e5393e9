-- What a view counts for changes is within the work of its query's joins for them.
use Rattle.std.proofs.Common.{◌≡◌, ◌+◌, ◌≤◌, List, subst, sym, arith}
use Rattle.std.specs.List.{AllByRecursion}
use Rattle.std.specs.Prelude.{IfOk, OnErr, Ok, Err, Result}
use Rattle.cq_model_bags.proofs.Bags.{projected-respects, same-trans}
use Rattle.cq_model_bags.proofs.Lists.{all-both}
use Rattle.cq_model_bags.specs.Bag.{SameBag}
use Rattle.cq_deltas_joins.specs.Work as chains
use Rattle.cq_model.specs.Group.{key_of}
use Rattle.cq_model.specs.Meaning.{Tables}
use Rattle.cq_model.specs.Views.{sources_of}
use Rattle.cq_model.specs.declared.query.Source.{Source}
use Rattle.cq_model_laws.proofs.Chains.{SameSources}
use Rattle.cq_views.proofs.Showing.{alike-inside}
use Rattle.cq_views.proofs.Told.{all-wide, changes-wide}
use Rattle.cq_views.proofs.Works.{joins_work-same}
use Rattle.cq_views.specs.Cut.{AreCut, cut_bags}
use Rattle.cq_views.specs.Laws.{CountsWithinWork}
use Rattle.cq_views.specs.State.{CountsPairs, SameView, StandsFor}
use Rattle.cq_views.specs.Work.{AreAsTold, CountsWithin}
use Rattle.cq_views.specs.declared.kept_view.KeptView.{KeptView}
use Rattle.cq_views_columns.specs.Narrow.{columns_at, narrowed_bags}
use Rattle.cq_views_model.specs.Delta.{SameTables, joins_work}
use Rattle.cq_views_state.proofs.Working.{counts-within_work, pairs-within_work, put-nothing}
use Rattle.cq_views_state.specs.Work.{work_of}
use Rattle.cq_views_state.specs.declared.state.Pending.{Pending}
use Rattle.cq_views_state.specs.declared.state.ViewState.{ViewState}

-- the joins do no more work over rows that are cut than those of the view's query over whole rows
joins-within : (v : KeptView) (tables changes others cut : Tables) → StandsFor v tables → AreAsTold v tables others → SameSources changes others (sources_of v.query) → SameTables cut (cut_bags v.columns changes)
    → joins_work v.state.query (cut_bags v.columns tables) cut ≤ joins_work v.query tables others
joins-within v tables changes others cut stands told also same =
    let inner = v.state.query in
    let rows = cut_bags v.columns tables in
    let more = cut_bags v.columns changes in
    let narrow_rows = narrowed_bags v.columns tables in
    let narrow_cut = narrowed_bags v.columns changes in
    let narrow_more = narrowed_bags v.columns others in
    let inside : SameSources changes others (sources_of inner) = subst (λ (sources : List Source). SameSources changes others sources) (sym stands.narrow.sources) also in
    let alike = all-both (λ s. SameBag (more s) (narrow_cut s)) (λ s. SameBag (changes s) (others s)) (λ s. SameBag (cut s) (narrow_more s))
    (λ s h e. same-trans (cut s) (narrow_cut s) (narrow_more s) (same-trans (cut s) (more s) (narrow_cut s) (same.at s) h) (projected-respects (key_of (columns_at v.columns s)) (changes s) (others s) e)) (sources_of inner)
    (alike-inside v stands.narrow told.width told.told changes) inside in
    omega (
      arith,
      joins_work-same rows narrow_rows cut narrow_more inner (alike-inside v stands.narrow told.width told.told tables) alike,
      stands.narrow.work tables others (record { width = told.width; from = told.told; rows = told.rows; more = told.more }),
    )

pub counts-within : CountsWithinWork
counts-within changes old ready new pending same waiting put = record {
  more = omega (arith, waiting.more, put.more, put.ticks);
  most = λ tables others also stands told.
      let rows = cut_bags old.columns tables in
      let wide = all-wide old tables waiting.cut stands.widths waiting.wide in
      omega (
        arith,
        joins-within old tables changes others waiting.cut stands told also waiting.same,
        counts-within_work rows waiting.cut old.state ready.state new.state pending stands.rows wide same.state waiting.counts waiting.rows (waiting.waits rows stands.rows wide) put,
      );
}

-- ---- changes that are prepared
-- while nothing is done with changes, nothing is counted
pub counts-nothing : (v : KeptView) (changes : Tables) → CountsWithin v changes v
counts-nothing v changes = record { more = omega arith; most = λ tables others also stands told. omega arith }

-- they wait
waiting-within : (changes : Tables) (old ready : KeptView) (pending : Pending) → SameView old ready → CountsPairs old changes ready pending → CountsWithin old changes ready
waiting-within changes old ready pending same waiting = counts-within changes old ready ready pending same waiting (put-nothing ready.state pending)

module _ (v : KeptView) (changes cut : Tables) (are : AreCut v.columns changes cut) (w : ViewState) (counts : chains.CountsPairs v.state.chain cut w.chain) (more : work_of v.state ≤ work_of w) where
  -- memory was short, and no row behind the joins was counted
  failed-within : w.ticks ≡ v.state.ticks → CountsWithin v changes (record v { state = w })
  failed-within ticks = record {
    more = more;
    most = λ tables others also stands told.
        let wide = all-wide v tables cut stands.widths (changes-wide v.columns changes cut are) in
        omega (
          arith,
          joins-within v tables changes others cut stands told also are.same,
          pairs-within_work (cut_bags v.columns tables) cut v.state w stands.rows wide counts ticks,
        );
  }

  -- either way what is counted is within the work of the view's joins
  pub prepared-within : {E : Type 0} (r : Result Pending E) → SameView v (record v { state = w }) → IfOk r (CountsPairs v changes (record v { state = w })) → OnErr r (w.ticks ≡ v.state.ticks)
      → CountsWithin v changes (record v { state = w })
  prepared-within (Ok pending) same waiting ticks = waiting-within changes v (record v { state = w }) pending same waiting
  prepared-within (Err e) same waiting ticks = failed-within ticks
