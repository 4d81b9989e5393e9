-- A state of a query that takes rows of tables in which are cut to its columns.
use Rattle.std.proofs.Common.{◌≡◌, ◌∙◌, ◌<◌, ◌≤◌, Bool, IsTrue, false, ◌^◌, ℕ, List, [], ◌∷◌, ◌++◌, length, map, Option, Some, None, refl, sym, ap, subst, arith}
use Rattle.std.proofs.lemmas.List.{map-append}
use Rattle.std.specs.List.{AllByRecursion}
use Rattle.cq_values.specs.Value.{Row}
use Rattle.cq_model_bags.proofs.Bags.{same-refl}
use Rattle.cq_model_bags.proofs.Distincts.{once_each-map}
use Rattle.cq_model_bags.proofs.Totals.{by_test}
use Rattle.cq_model_bags.specs.Bag.{SameBag, Weighted, once_each}
use Rattle.cq_deltas_joins.specs.Chains.{nothing, spans}
use Rattle.cq_deltas_joins.specs.Steps.{AreStored}
use Rattle.cq_table_columns.specs.Stored.{all_rows}
use Rattle.cq_views_model.specs.Delta.{changed}
use Rattle.cq_views.proofs.Bags.{cut-append, cut-bags, cut-none, cut-sizes, cut-stored}
use Rattle.cq_views.proofs.Told.{start-wide}
use Rattle.cq_views.proofs.Taking.{bags_at-bags, can-first, can-second, can-swapped, crossed-less, fills-none, fills-swapped, only-bags, spans-less}
use Rattle.cq_views.specs.Cut.{IsFilled, cut_bags, cut_only, cut_table, cut_to, cut_widths, entry_of}
use Rattle.cq_views.specs.Filling.{CanFill, Fills, bags_at, only}
use Rattle.cq_model_laws.proofs.Positives.{once_each-bag}
use Rattle.cq_model.specs.Sources.{same_source}
use Rattle.cq_model.specs.Group.{key_of}
use Rattle.cq_model.specs.Meaning.{Tables}
use Rattle.cq_model.specs.Views.{sources_of}
use Rattle.cq_model.specs.declared.query.Query.{Query}
use Rattle.cq_model.specs.declared.query.Source.{Source}
use Rattle.cq_views_columns.specs.Narrow.{IsNarrowOf}
use Rattle.cq_views_columns.specs.declared.columns.SourceColumns.{SourceColumns}
use Rattle.cq_views_columns.specs.declared.narrow_query.NarrowQuery.{NarrowQuery}
use Rattle.cq_table_columns.specs.declared.stored_source.StoredSource.{StoredSource}
use Rattle.cq_views_state.specs.State.{AreAsTold, AreBags, AreCountable, CanStart, HoldStored, SameView, StandsFor}
use Rattle.cq_views_state.specs.Work.{work_of}
use Rattle.cq_views_state.specs.declared.state.ViewState.{ViewState}
use Rattle.cq_model_bags.proofs.Lists.{all-of, all-weaker}
use Rattle.cq_model.proofs.SameSources.{only_itself}

-- ---- rows of one table
module _ (columns : List SourceColumns) (t : StoredSource) where
  abbrev rows : Weighted
  rows = once_each (all_rows t.rows)

  -- those of a source without an entry are none
  no-entry-at : entry_of columns t.source ≡ None → (s : Source) → cut_table columns t s ≡ []
  no-entry-at none s = by_test (same_source t.source s)
      (λ k. rw k (subst (λ (o : Option SourceColumns). cut_to o rows ≡ []) (sym (ap (entry_of columns) (sym (only_itself t.source s k)) ∙ none)) refl))
      (λ k. rw k (cut-none (entry_of columns s)))

  pub no-entry : (v : ViewState) → entry_of columns t.source ≡ None → Fills (cut_table columns t) v v
  no-entry v none = fills-none v (cut_table columns t) (no-entry-at none)

  -- the others are cut to the columns of its entry
  entry-at : (x : SourceColumns) → entry_of columns t.source ≡ Some x → (s : Source) → cut_table columns t s ≡ cut_only t.source x.columns (all_rows t.rows) s
  entry-at x found s = by_test (same_source t.source s)
      (λ k. rw k (ap (λ (o : Option SourceColumns). cut_to o rows) (ap (entry_of columns) (sym (only_itself t.source s k)) ∙ found) ∙ sym (once_each-map (key_of x.columns) (all_rows t.rows))))
      (λ k. rw k (cut-none (entry_of columns s)))

  pub own-entry : (x : SourceColumns) → entry_of columns t.source ≡ Some x → cut_table columns t ≡ cut_only t.source x.columns (all_rows t.rows)
  own-entry x found = λ i s. entry-at x found s i

  cut_table-bags : AreBags (cut_table columns t)
  cut_table-bags = cut-bags columns (only t.source rows) (only-bags t.source (all_rows t.rows))

  -- those of the first table come last
  module _ (v : ViewState) (rest : List StoredSource) where
    abbrev others : Tables
    others = cut_bags columns (bags_at rest)

    others-bags : AreBags others
    others-bags = cut-bags columns (bags_at rest) (bags_at-bags rest)

    both : cut_bags columns (bags_at (t ∷ rest)) ≡ changed (cut_table columns t) others
    both = λ i s. cut-append (entry_of columns s) (only t.source rows s) (bags_at rest s) i

    module _ (can : CanFill v (cut_bags columns (bags_at (t ∷ rest)))) where
      swapped-can : CanFill v (changed others (cut_table columns t))
      swapped-can = can-swapped v (cut_table columns t) others cut_table-bags others-bags (subst (λ (ts : Tables). CanFill v ts) both can)

      pub others-can : CanFill v others
      others-can = can-first v others (cut_table columns t) others-bags cut_table-bags swapped-can

      pub own-can : (w : ViewState) → Fills others v w → CanFill w (cut_table columns t)
      own-can w fills = can-second v others (cut_table columns t) others-bags cut_table-bags w swapped-can fills

    pub all-filled : (w x : ViewState) → Fills others v w → Fills (cut_table columns t) w x → Fills (cut_bags columns (bags_at (t ∷ rest))) v x
    all-filled w x one two = subst (λ (ts : Tables). Fills ts v x) (sym both) (fills-swapped v others (cut_table columns t) others-bags cut_table-bags w x one two)

-- of no table there are none
pub no-tables : (columns : List SourceColumns) (v : ViewState) (tables : List StoredSource) → length tables ≡ 0 → Fills (cut_bags columns (bags_at tables)) v v
no-tables columns v [] none = fills-none v (cut_bags columns (bags_at [])) (λ s. cut-none (entry_of columns s))
no-tables columns v (t ∷ tables) none = absurd (omega (arith, none))

-- rows in two parts are cut in two parts
pub cut-parts : (columns : List ℕ) (left front rest : List Row) → left ≡ front ++ rest → map (key_of columns) left ≡ map (key_of columns) front ++ map (key_of columns) rest
cut-parts columns left front rest parts = ap (map (key_of columns)) parts ∙ map-append (key_of columns) front rest

-- where no row is left, nothing is to be done
pub none-left : (v : ViewState) (source : Source) (columns : List ℕ) (left : List Row) → left ≡ [] → Fills (cut_only source columns left) v v
none-left v source columns left none =
    subst (λ (rows : List Row). Fills (cut_only source columns rows) v v) (sym none)
    (fills-none v (cut_only source columns []) (λ s. by_test (same_source source s) (λ k. rw k refl) (λ k. rw k refl)))

-- there are rows where a test for none fails
pub some-left : (left : List Row) (empty : Bool) → (left ≡ [] → IsTrue empty) → empty ≡ false → 0 < length left
some-left [] empty is_empty fails = absurd (cc (is_empty refl, fails))
some-left (r ∷ left) empty is_empty fails = omega arith

-- ---- a state without rows, and the rows of all tables
-- rows that it can start with can be taken in
pub start-can : (v : ViewState) (query : Query) (more : Tables) → v.query ≡ query → CanStart query more → AreBags more → StandsFor v nothing → AreAsTold v nothing more → CanFill v more
start-can v query more is start bags stands wide =
    let own : CanStart v.query more = subst (λ (q : Query). CanStart q more) (sym is) start in
    record {
      can = record {
        can = own.can;
        tables = nothing;
        stands = stands;
        wide = wide;
        few = own.few;
        countable = record { before = omega arith; behind = more; same = all-of (λ s. SameBag (more s) (more s)) (λ s. same-refl (more s)) (sources_of v.query); after = own.countable };
        stored = (all-of (λ s. AreStored (nothing s)) (λ s. tt) (sources_of v.query), own.stored);
      };
      bags = (λ s. once_each-bag [], bags);
      countable = own.countable;
    }

-- and once it has taken them in, and counts no work of them, the state is theirs
pub counted-anew : (columns : List SourceColumns) (query : Query) (now : ℕ) (rows : Tables) (v w : ViewState) → v.query ≡ query → v.widths ≡ cut_widths columns query
    → v.epoch ≡ now → v.built ≡ now → StandsFor v nothing → Fills (cut_bags columns rows) v w
    → (counted : ViewState) → SameView w counted → work_of counted ≡ 0 → IsFilled columns query now rows counted
counted-anew columns query now rows v w is widths epoch built stands fills counted still none = record {
  query = still.query ∙ fills.query ∙ is;
  widths = still.widths ∙ fills.widths ∙ widths;
  epoch = still.epoch ∙ fills.epoch ∙ epoch;
  built = still.built ∙ fills.built ∙ built;
  stands = still.stands (cut_bags columns rows) (fills.stands nothing stands (λ s. once_each-bag []) (start-wide v columns query rows is widths));
  uncounted = none;
}

-- ---- a query over its columns
module _ (query : Query) (widths : List ℕ) (narrow : NarrowQuery) (is : IsNarrowOf query widths narrow) where
  -- over rows that are cut it can be kept as the query can be over the whole ones
  cut-hold : (tables : Tables) → HoldStored query tables → HoldStored narrow.query (cut_bags narrow.columns tables)
  cut-hold tables stored =
      subst (λ (ss : List Source). AllByRecursion (λ s. AreStored (cut_bags narrow.columns tables s)) ss) (sym is.sources)
      (all-weaker (λ s. AreStored (tables s)) (λ s. AreStored (cut_bags narrow.columns tables s)) (λ s h. cut-stored (entry_of narrow.columns s) (tables s) h) (sources_of query) stored)

  pub cut-start : (tables : Tables) → CanStart query tables → CanStart narrow.query (cut_bags narrow.columns tables)
  cut-start tables start =
      let columns = narrow.columns in
      let less = spans-less nothing (cut_bags columns tables) nothing tables (λ s. omega (arith, cut-sizes (entry_of columns s) (tables s))) (sources_of query) in
      let few : spans nothing (cut_bags columns tables) (sources_of query) < 2 ^ 127 = omega (arith, less, start.few) in
      let fewer = crossed-less (cut_bags columns tables) tables (λ s. cut-sizes (entry_of columns s) (tables s)) (sources_of query) in
      let countable : AreCountable (sources_of query) (cut_bags columns tables) = omega (arith, fewer, start.countable) in
      record {
        can = is.kept start.can;
        few = subst (λ (ss : List Source). spans nothing (cut_bags columns tables) ss < 2 ^ 127) (sym is.sources) few;
        countable = subst (λ (ss : List Source). AreCountable ss (cut_bags columns tables)) (sym is.sources) countable;
        stored = cut-hold tables start.stored;
      }
