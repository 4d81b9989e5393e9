-- What a view counts for a change that it takes in, and for several.
use Rattle.std.proofs.Common.{◌≡◌, ◌∙◌, ◌+◌, ◌-◌, ◌≤◌, ℕ, zero, suc, false, List, [], ◌∷◌, ◌++◌, Option, Some, None, refl, sym, ap, subst, arith}
use Rattle.std.specs.Prelude.{IfSome}
use Rattle.std.specs.List.{AllByRecursion}
use Rattle.std.proofs.lemmas.List.{append-nil}
use Rattle.cq_model_bags.specs.Bag.{SameBag, Weighted}
use Rattle.cq_model_bags.proofs.Bags.{same-append, same-equal, same-refl, same-sym, same-trans}
use Rattle.cq_model_bags.proofs.Totals.{by_test}
use Rattle.cq_model.proofs.SameSources.{only_itself}
use Rattle.cq_model.specs.Meaning.{Tables, meaning}
use Rattle.cq_model.specs.Sources.{same_source}
use Rattle.cq_model.specs.Views.{is_table, sources_of}
use Rattle.cq_model.specs.declared.query.Query.{Query}
use Rattle.cq_model.specs.declared.query.Source.{Source}
use Rattle.cq_model_laws.proofs.Chains.{SameSources}
use Rattle.cq_model_laws.proofs.Meanings.{meaning-same}
use Rattle.cq_model_state.specs.State.{ChangeOf, State}
use Rattle.cq_views.proofs.Bags.{cut-same}
use Rattle.cq_views.specs.Cut.{cut_bags, cut_to, entry_of}
use Rattle.cq_views.specs.Laws.{CountsWithinWork, RisesWhereChanged, WorkDependsOnSources}
use Rattle.cq_views.specs.State.{CountsPairs, StandsFor, narrow_query}
use Rattle.cq_views.specs.declared.kept_view.KeptView.{KeptView}
use Rattle.cq_views_columns.specs.Narrow.{IsNarrowOf, sources_read}
use Rattle.cq_views_columns.specs.declared.columns.SourceColumns.{SourceColumns}
use Rattle.cq_views_model.specs.Delta.{SameTables, changed}
use Rattle.cq_views_model.specs.Query.{reads}
use Rattle.cq_views_state.specs.Work.{work_of}
use Rattle.cq_views_state.specs.declared.state.Pending.{Pending}
use Rattle.cq_engine_tables.proofs.Rows.{unread}
use Rattle.cq_engine_tables.specs.Taking.{CountsReady, HasTaken, IsReady, IsSame}
use Rattle.cq_engine_tables.specs.Views.{NamedView}
use Rattle.cq_engine_queue.proofs.Unread.{others}
use Rattle.cq_engine_queue.specs.Counts.{CountsChanges, CountsFor, HasCounted, bags_at, changes_at}
use Rattle.cq_engine_queue.specs.Taking.{CanCount, changes_by}

-- ---- The same bags
changed-same : (tables others changes more : Tables) (sources : List Source) → SameSources tables others sources → SameSources changes more sources → SameSources (changed tables changes) (changed others more) sources
changed-same tables others changes more [] same also = tt
changed-same tables others changes more (s ∷ sources) same also =
    (same-append (tables s) (others s) (changes s) (more s) same.0 also.0, changed-same tables others changes more sources same.1 also.1)

-- where the bags of the sources are the same, the count is for these too
pub counts-same : (law : WorkDependsOnSources) (q : Query) (tables others changes more : Tables) (before after : ℕ) → SameSources tables others (sources_of q) → SameSources changes more (sources_of q)
    → CountsFor q tables changes before after → CountsFor q others more before after
counts-same law q tables others changes more before after same also counts = record {
  more = counts.more;
  most = omega (arith, counts.most, law q tables others changes more same also);
  rises = λ differs. counts.rises (λ stays. differs
      (same-trans (meaning q (changed others more)) (meaning q (changed tables changes)) (meaning q others)
      (same-sym (meaning q (changed tables changes)) (meaning q (changed others more)) (meaning-same q (changed tables changes) (changed others more) (changed-same tables others changes more (sources_of q) same also)))
      (same-trans (meaning q (changed tables changes)) (meaning q tables) (meaning q others) stays (meaning-same q tables others same))));
}

-- ---- Changes that are cut
-- what has an entry among the columns that a query reads is one of its sources
entry-read : (P : Source → Type 0) (q : Query) (all : List ℕ) (sources : List Source) (widths : List ℕ) (s : Source) → AllByRecursion P sources → IfSome (entry_of (sources_read q all sources widths) s) (λ x. P s)
entry-read P q all [] widths s each = tt
entry-read P q all (t ∷ sources) [] s each = tt
entry-read P q all (t ∷ sources) (w ∷ widths) s each = by_test (same_source t s)
    (λ k. rw k (subst P (only_itself t s k) each.0))
    (λ k. rw k (entry-read P q all sources widths s each.1))

cut-each : (x : Option SourceColumns) (xs ys : Weighted) → IfSome x (λ y. SameBag xs ys) → SameBag (cut_to x xs) (cut_to x ys)
cut-each None xs ys same = same-refl []
cut-each (Some x) xs ys same = cut-same (Some x) xs ys same

-- so changes with the same bags of the sources are cut to the same
cut-sources : (q : Query) (all : List ℕ) (columns : List SourceColumns) (changes others : Tables) → columns ≡ sources_read q all (sources_of q) all → SameSources changes others (sources_of q)
    → SameTables (cut_bags columns changes) (cut_bags columns others)
cut-sources q all columns changes others are same = record {
  at = λ s. cut-each (entry_of columns s) (changes s) (others s)
      (subst (λ (xs : List SourceColumns). IfSome (entry_of xs s) (λ x. SameBag (changes s) (others s))) (sym are) (entry-read (λ t. SameBag (changes t) (others t)) q all (sources_of q) all s same));
}

pairs-same : (old new : KeptView) (changes also : Tables) (pending : Pending) → IsNarrowOf old.query old.widths (narrow_query old) → SameSources changes also (sources_of old.query)
    → CountsPairs old changes new pending → CountsPairs old also new pending
pairs-same old new changes also pending narrow same pairs = record {
  cut = pairs.cut;
  same = record {
    at = λ s. same-trans (pairs.cut s) (cut_bags old.columns changes s) (cut_bags old.columns also s) (pairs.same.at s)
        ((cut-sources old.query old.widths old.columns changes also narrow.columns same).at s);
  };
  wide = pairs.wide;
  waits = pairs.waits;
  counts = pairs.counts;
  rows = pairs.rows;
  more = pairs.more;
}

-- ---- One change
module _ (within : CountsWithinWork) (rises : RisesWhereChanged) (c : ChangeOf) where
  -- a table that is not read changes no bag
  stay-bags : (tables changes : Tables) (sources : List Source) → SameSources (changes_by c) changes sources → AllByRecursion (λ s. is_table c.table s ≡ false) sources → SameSources (changed tables changes) tables sources
  stay-bags tables changes [] same free = tt
  stay-bags tables changes (s ∷ sources) same free =
      let none : SameBag (changes s) [] = subst (λ (xs : Weighted). SameBag (changes s) xs) (others c s free.0) (same-sym (changes_by c s) (changes s) same.0) in (
        same-trans (tables s ++ changes s) (tables s ++ []) (tables s) (same-append (tables s) (tables s) (changes s) [] (same-refl (tables s)) none) (same-equal (tables s ++ []) (tables s) (append-nil (tables s))),
        stay-bags tables changes sources same.1 free.1,
      )

  -- what a view counts that took in what waited
  pub counts-change : (v w x : NamedView) (p : Option Pending) → IsSame v w → ((tables : Tables) → StandsFor v.kept tables → IsReady c.table tables (changes_by c) w p) → CountsReady (changes_by c) v w p → HasTaken w p x
      → (tables changes : Tables) → CanCount c v tables changes → CountsFor v.kept.query tables changes (work_of v.kept.state) (work_of x.kept.state)
  counts-change v w x None s ready counted taken tables changes can =
      let q = v.kept.query in
      let free : reads c.table q ≡ false = ap (λ (d : Query). reads c.table d) (sym s.kept.query) ∙ ready tables can.suits.stands in
      let same : work_of x.kept.state ≡ work_of v.kept.state = taken.counts ∙ counted in
      record {
        more = omega (arith, same);
        most = omega (arith, same);
        rises = λ differs. absurd (differs (meaning-same q (changed tables changes) tables (stay-bags tables changes (sources_of q) can.same (unread c.table (sources_of q) free))));
      }
  counts-change v w x (Some p) s ready counted taken tables changes can =
      let pairs = pairs-same v.kept w.kept (changes_by c) changes p can.suits.stands.narrow can.same counted in
      let most = within changes v.kept w.kept x.kept p s.kept pairs taken.counts in
      record {
        more = most.more;
        most = most.most tables changes (all-itself changes (sources_of v.kept.query)) can.suits.stands can.told;
        rises = rises tables changes v.kept w.kept x.kept p can.suits can.behind pairs taken.counts;
      }
    where
      all-itself : (changes : Tables) (sources : List Source) → SameSources changes changes sources
      all-itself changes [] = tt
      all-itself changes (s ∷ sources) = (same-refl (changes s), all-itself changes sources)

-- ---- Several
-- a view that stays where it is counts nothing
pub counted-itself : (s : State) (v : NamedView) → HasCounted s v v
counted-itself s v =
    let none : v.kept.state.epoch - v.kept.state.epoch ≡ 0 = omega arith in
    record { counts = rw none refl; ahead = omega arith }

-- one change more
pub counts-more : (q : Query) (s : State) (n epoch before between after : ℕ) → CountsChanges q s epoch n before between → CountsFor q (bags_at s (epoch + n)) (changes_at s (epoch + n)) between after
    → CountsChanges q s epoch (suc n) before after
counts-more q s zero epoch before between after counts one =
    let here : epoch + 0 ≡ epoch = omega arith in
    (after, subst (λ (b : ℕ). CountsFor q (bags_at s epoch) (changes_at s epoch) b after) counts (subst (λ (e : ℕ). CountsFor q (bags_at s e) (changes_at s e) between after) here one), refl)
counts-more q s (suc n) epoch before between after counts one =
    let next : epoch + suc n ≡ epoch + 1 + n = omega arith in
    (counts.0, counts.1, counts-more q s n (epoch + 1) counts.0 between after counts.2 (subst (λ (e : ℕ). CountsFor q (bags_at s e) (changes_at s e) between after) next one))
