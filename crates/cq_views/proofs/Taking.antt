-- A state that takes rows in stands for them beside those that it had.
use Rattle.std.proofs.Common.{◌≡◌, ◌∙◌, ◌+◌, ◌<◌, ◌≤◌, ◌^◌, pos, List, [], ◌∷◌, ◌++◌, length, refl, sym, ap, subst, arith, append_assoc}
use Rattle.std.proofs.lemmas.Int.{ints}
use Rattle.std.proofs.lemmas.List.{append-nil, map-append}
use Rattle.std.proofs.lemmas.Nat.{mul-le}
use Rattle.cq_values.specs.Value.{Row}
use Rattle.cq_model_bags.proofs.Bags.{same-append, same-refl, same-sym}
use Rattle.cq_model_bags.proofs.Totals.{by_test, weight_of-append}
use Rattle.cq_model_bags.specs.Bag.{Weighted, SameBag, IsBag, once_each}
use Rattle.cq_model_bags.specs.Join.{HasWidth}
use Rattle.cq_model_bags.specs.Size.{IsClean}
use Rattle.cq_table_columns.specs.Stored.{all_rows}
use Rattle.cq_views_model.specs.Delta.{SameTables, changed}
use Rattle.cq_views.specs.Filling.{CanFill, Fills, bags_at, only}
use Rattle.cq_model_laws.proofs.Positives.{once_each-bag}
use Rattle.cq_model.specs.Sizes.{IsStored}
use Rattle.cq_views.proofs.Told.{all-back, all-front, wide-first, wide-second, wide-swapped}
use Rattle.cq_model.specs.Sources.{same_source}
use Rattle.cq_model.specs.Meaning.{Tables}
use Rattle.cq_model.specs.Views.{sources_of}
use Rattle.cq_model.specs.declared.query.Query.{Query}
use Rattle.cq_model.specs.declared.query.Source.{Source}
use Rattle.cq_deltas_joins.proofs.Sizes.{sizes-least}
use Rattle.cq_sides_weights.proofs.RowByRow.{sizes-append, sizes-cons}
use Rattle.cq_sides_weights.specs.Held.{sizes}
use Rattle.cq_deltas_joins.proofs.Storing.{merged-all, stored-append, stored-merged}
use Rattle.cq_deltas_joins.specs.Chains.{spans}
use Rattle.cq_deltas_joins.specs.Steps.{AreStored, span}
use Rattle.cq_table_columns.specs.declared.stored_source.StoredSource.{StoredSource}
use Rattle.cq_views_state.proofs.SameBags.{standing-by_sources}
use Rattle.cq_views_model.specs.Query.{CanBeKept}
use Rattle.cq_views_state.specs.Build.{Gains}
use Rattle.cq_views_state.specs.State.{AreBags, AreAsTold, AreCountable, CanPrepare, HoldStored, StandsFor, StayCountable, crossed}
use Rattle.cq_views_state.specs.declared.state.ViewState.{ViewState}
use Rattle.cq_model_bags.proofs.Lists.{all-both, all-of}

-- ---- Rows, each of them once
-- rows that are there once each have their number as their sizes
pub sizes-once_each : (rows : List Row) → sizes (once_each rows) ≡ length rows
sizes-once_each [] = refl
sizes-once_each (r ∷ rows) = omega (arith, ints, sizes-cons (r, pos 1) (once_each rows), sizes-once_each rows)

-- ---- Several sources
-- smaller rows and changes of each source have no larger spans
pub spans-less : (tables changes others more : Tables) → ((s : Source) → span (tables s) (changes s) ≤ span (others s) (more s)) → (sources : List Source)
    → spans tables changes sources ≤ spans others more sources
spans-less tables changes others more less [] = omega arith
spans-less tables changes others more less (s ∷ sources) =
    mul-le (span (tables s) (changes s)) (spans tables changes sources) (span (others s) (more s)) (spans others more sources) (less s) (spans-less tables changes others more less sources)

-- and smaller rows of each source are fewer in all joins
pub crossed-less : (tables others : Tables) → ((s : Source) → sizes (tables s) ≤ sizes (others s)) → (sources : List Source) → crossed tables sources ≤ crossed others sources
crossed-less tables others less [] = omega arith
crossed-less tables others less (s ∷ sources) =
    mul-le (sizes (tables s)) (crossed tables sources) (sizes (others s)) (crossed others sources) (less s) (crossed-less tables others less sources)

-- a join that has no more rows than can be counted, and none with all that changes add, stays so
changed-countable : (sources : List Source) (tables changes : Tables) → AreCountable sources tables → AreCountable sources (changed tables changes) → StayCountable sources tables changes
changed-countable sources tables changes before after = record {
  before = before;
  behind = changed tables changes;
  same = all-of (λ s. SameBag (changed tables changes s) (changed tables changes s)) (λ s. same-refl (changed tables changes s)) sources;
  after = after;
}

-- ---- Rows beside others
stored-front : (xs ys : Weighted) → AreStored (xs ++ ys) → AreStored xs
stored-front xs ys all = all-front IsStored xs ys all

stored-back : (xs ys : Weighted) → AreStored (xs ++ ys) → AreStored ys
stored-back xs ys all = all-back IsStored xs ys all

pub bag-append : (xs ys : Weighted) → IsBag xs → IsBag ys → IsBag (xs ++ ys)
bag-append xs ys first second = record { at = λ r. omega (arith, ints, weight_of-append xs ys r, first.at r, second.at r) }

pub bags-changed : (tables changes : Tables) → AreBags tables → AreBags changes → AreBags (changed tables changes)
bags-changed tables changes first second s = bag-append (tables s) (changes s) (first s) (second s)

-- a view that has taken rows in has taken in each list with their bag, where it is as wide
pub fills-same : (old new : ViewState) (more others : Tables) → SameTables more others → ((tables : Tables) → AreAsTold old tables others → AreAsTold old tables more)
    → Fills more old new → Fills others old new
fills-same old new more others same as_wide fills = record {
  query = fills.query;
  widths = fills.widths;
  epoch = fills.epoch;
  built = fills.built;
  stands = λ tables stands bags wide.
      standing-by_sources new (changed tables more) (changed tables others)
      (all-of (λ s. SameBag (tables s ++ more s) (tables s ++ others s)) (λ s. same-append (tables s) (tables s) (more s) (others s) (same-refl (tables s)) (same.at s)) (sources_of new.query))
      (fills.stands tables stands bags (as_wide tables wide));
}

-- where there is none, it is as it was
pub fills-none : (v : ViewState) (more : Tables) → ((s : Source) → more s ≡ []) → Fills more v v
fills-none v more none = record {
  query = refl;
  widths = refl;
  epoch = refl;
  built = refl;
  stands = λ tables stands bags wide.
      let same : (s : Source) → tables s ≡ tables s ++ more s = λ s. sym (append-nil (tables s)) ∙ ap (λ (xs : Weighted). tables s ++ xs) (sym (none s)) in
      subst (λ (ts : Tables). StandsFor v ts) (λ i s. same s i) stands;
}

module _ (v : ViewState) (a b : Tables) (first : AreBags a) (second : AreBags b) where
  -- as both can be taken in, so can bags that are as wide, no larger, and stored where both are
  can-as : (c : Tables) (can : CanFill v (changed a b)) → AreBags c → AreAsTold v can.can.tables c → ((s : Source) → sizes (c s) ≤ sizes (a s) + sizes (b s)) → ((s : Source) → AreStored (a s ++ b s) → AreStored (c s))
      → CanFill v c
  can-as c can bags wide no_larger stored =
      let tables = can.can.tables in
      let less = spans-less tables c tables (changed a b) (λ s. omega (arith, sizes-append (a s) (b s), no_larger s)) (sources_of v.query) in
      let fewer = crossed-less (changed tables c) (changed tables (changed a b))
      (λ s. omega (arith, sizes-append (tables s) (c s), sizes-append (tables s) (a s ++ b s), sizes-append (a s) (b s), no_larger s)) (sources_of v.query) in
      let countable : AreCountable (sources_of v.query) (changed tables c) = omega (arith, can.countable, fewer) in
      let whole = can.can.stored.1 in
      record {
        can = record {
          can = can.can.can;
          tables = tables;
          stands = can.can.stands;
          wide = wide;
          few = omega (arith, can.can.few, less);
          countable = changed-countable (sources_of v.query) tables c can.can.countable.before countable;
          stored = (can.can.stored.0, all-both (λ s. AreStored (a s ++ b s)) (λ s. AreStored (a s ++ b s)) (λ s. AreStored (c s)) (λ s all same. stored s all) (sources_of v.query) whole whole);
        };
        bags = (can.bags.0, bags);
        countable = countable;
      }

  -- rows that can be taken in with others can be taken in alone
  pub can-first : CanFill v (changed a b) → CanFill v a
  can-first can = can-as a can first (wide-first v can.can.tables a b can.can.wide) (λ s. omega arith) (λ s all. stored-front (a s) (b s) all)

  -- and behind the others
  pub can-swapped : CanFill v (changed a b) → CanFill v (changed b a)
  can-swapped can =
      can-as (changed b a) can (bags-changed b a second first) (wide-swapped v can.can.tables a b can.can.wide) (λ s. omega (arith, sizes-append (b s) (a s)))
      (λ s all. stored-append (b s) (a s) (stored-back (a s) (b s) all) (stored-front (a s) (b s) all))

  -- so the others are what is left then
  pub can-second : (w : ViewState) → CanFill v (changed a b) → Fills a v w → CanFill w b
  can-second w can fills =
      let tables = can.can.tables in
      let less = spans-less (changed tables a) b tables (changed a b) (λ s. omega (arith, sizes-append (tables s) (a s), sizes-append (a s) (b s))) (sources_of v.query) in
      let few : spans (changed tables a) b (sources_of v.query) < 2 ^ 127 = omega (arith, can.can.few, less) in
      let fewer = crossed-less (changed tables a) (changed tables (changed a b))
      (λ s. omega (arith, sizes-append (tables s) (a s), sizes-append (tables s) (a s ++ b s), sizes-append (a s) (b s))) (sources_of v.query) in
      let same = crossed-less (changed (changed tables a) b) (changed tables (changed a b))
      (λ s. omega (arith, sizes-append (tables s ++ a s) (b s), sizes-append (tables s) (a s), sizes-append (tables s) (a s ++ b s), sizes-append (a s) (b s))) (sources_of v.query) in
      let countable : AreCountable (sources_of v.query) (changed (changed tables a) b) = omega (arith, can.countable, same) in
      let stays : StayCountable (sources_of v.query) (changed tables a) b = changed-countable (sources_of v.query) (changed tables a) b (omega (arith, can.countable, fewer)) countable in
      let whole = can.can.stored.1 in
      let before = all-both (λ s. AreStored (tables s)) (λ s. AreStored (a s ++ b s)) (λ s. AreStored (tables s ++ a s))
      (λ s old all. stored-append (tables s) (a s) old (stored-front (a s) (b s) all)) (sources_of v.query) can.can.stored.0 whole in
      let after = all-both (λ s. AreStored (a s ++ b s)) (λ s. AreStored (a s ++ b s)) (λ s. AreStored (b s)) (λ s all same. stored-back (a s) (b s) all) (sources_of v.query) whole whole in
      record {
        can = record {
          can = subst CanBeKept (sym fills.query) can.can.can;
          tables = changed tables a;
          stands = fills.stands tables can.can.stands can.bags.0 (wide-first v tables a b can.can.wide);
          wide = wide-second v tables a b can.can.wide w fills.query fills.widths;
          few = subst (λ (q : Query). spans (changed tables a) b (sources_of q) < 2 ^ 127) (sym fills.query) few;
          countable = subst (λ (q : Query). StayCountable (sources_of q) (changed tables a) b) (sym fills.query) stays;
          stored = subst (λ (q : Query). HoldStored q (changed tables a) × HoldStored q b) (sym fills.query) (before, after);
        };
        bags = (bags-changed tables a can.bags.0 first, second);
        countable = subst (λ (q : Query). AreCountable (sources_of q) (changed (changed tables a) b)) (sym fills.query) countable;
      }

  -- a view that takes in both, one after the other, takes in all
  pub fills-both : (w x : ViewState) → Fills a v w → Fills b w x → Fills (changed a b) v x
  fills-both w x one two = record {
    query = two.query ∙ one.query;
    widths = two.widths ∙ one.widths;
    epoch = two.epoch ∙ one.epoch;
    built = two.built ∙ one.built;
    stands = λ tables stands bags wide.
        subst (λ (ts : Tables). StandsFor x ts) (λ i s. append_assoc (tables s) (a s) (b s) i)
        (two.stands (changed tables a) (one.stands tables stands bags (wide-first v tables a b wide)) (bags-changed tables a bags first)
        (wide-second v tables a b wide w one.query one.widths));
  }

  -- also where the others stand in front
  pub fills-swapped : (w x : ViewState) → Fills a v w → Fills b w x → Fills (changed b a) v x
  fills-swapped w x one two = fills-same v x (changed a b) (changed b a) (record { at = λ s. swapped s }) (λ tables wide. wide-swapped v tables b a wide) (fills-both w x one two)
    where
      swapped : (s : Source) → SameBag (a s ++ b s) (b s ++ a s)
      swapped s = record { at = λ r. omega (arith, ints, weight_of-append (a s) (b s) r, weight_of-append (b s) (a s) r) }

-- ---- Rows of one source
-- what holds of them and of no rows holds of the rows of each source
pub only-have : (P : Weighted → Type 0) (source : Source) (xs : Weighted) → P xs → P [] → (s : Source) → P (only source xs s)
only-have P source xs own none s = by_test (same_source source s) (λ k. rw k own) (λ k. rw k none)

pub only-bags : (source : Source) (rows : List Row) → AreBags (only source (once_each rows))
only-bags source rows = only-have IsBag source (once_each rows) (once_each-bag rows) (once_each-bag [])

pub only-append : (source : Source) (front rest : List Row) → only source (once_each (front ++ rest)) ≡ changed (only source (once_each front)) (only source (once_each rest))
only-append source front rest = λ i s. each s i
  where
    each : (s : Source) → only source (once_each (front ++ rest)) s ≡ only source (once_each front) s ++ only source (once_each rest) s
    each s = by_test (same_source source s) (λ k. rw k (map-append (λ (r : Row). (r, pos 1)) front rest)) (λ k. rw k refl)

-- some of them, and then those that are left
module _ (v : ViewState) (source : Source) (left front rest : List Row) (parts : left ≡ front ++ rest) where
  abbrev some : Tables
  some = only source (once_each front)

  abbrev others : Tables
  others = only source (once_each rest)

  both : only source (once_each left) ≡ changed some others
  both = ap (λ (rows : List Row). only source (once_each rows)) parts ∙ only-append source front rest

  module _ (can : CanFill v (only source (once_each left))) where
    pub front-can : CanFill v some
    front-can = can-first v some others (only-bags source front) (only-bags source rest) (subst (λ (ts : Tables). CanFill v ts) both can)

    pub rest-can : (w : ViewState) → Fills some v w → CanFill w others
    rest-can w fills = can-second v some others (only-bags source front) (only-bags source rest) w (subst (λ (ts : Tables). CanFill v ts) both can) fills

  pub left-filled : (w x : ViewState) → Fills some v w → Fills others w x → Fills (only source (once_each left)) v x
  left-filled w x one two =
      subst (λ (ts : Tables). Fills ts v x) (sym both) (fills-both v some others (only-bags source front) (only-bags source rest) w x one two)

-- rows as they are copied
module _ (v : ViewState) (source : Source) (rows : List Row) (once : Weighted) (clean : IsClean once) (same : SameBag once (once_each rows)) where
  -- they are as wide as the rows
  copies-wide : (tables : Tables) → AreAsTold v tables (only source (once_each rows)) → AreAsTold v tables (only source once)
  copies-wide tables wide = record { width = wide.width; told = wide.told; rows = wide.rows; more = λ s. each s }
    where
      each : (s : Source) → HasWidth (wide.width s) (only source once s)
      each s = by_test (same_source source s)
          (λ k. rw k (merged-all (λ r. length r ≡ wide.width s) once (once_each rows) clean same (rw k at (wide.more s))))
          (λ k. rw k tt)

  pub can-prepare : CanFill v (only source (once_each rows)) → CanPrepare v (only source once)
  can-prepare can =
      let tables = can.can.tables in
      let whole = can.can.stored.1 in
      record {
        can = can.can.can;
        tables = tables;
        stands = can.can.stands;
        wide = copies-wide tables can.can.wide;
        few = omega (arith, can.can.few, spans-less tables (only source once) tables (only source (once_each rows)) less (sources_of v.query));
        countable = record {
          before = can.can.countable.before;
          behind = changed tables (only source (once_each rows));
          same = all-of (λ s. SameBag (tables s ++ only source (once_each rows) s) (tables s ++ only source once s)) alike (sources_of v.query);
          after = can.countable;
        };
        stored = (
          can.can.stored.0,
          all-both (λ s. AreStored (only source (once_each rows) s)) (λ s. AreStored (only source (once_each rows) s)) (λ s. AreStored (only source once s))
              (λ s all other. stored s all) (sources_of v.query) whole whole,
        );
      }
    where
      less : (s : Source) → span (can.can.tables s) (only source once s) ≤ span (can.can.tables s) (only source (once_each rows) s)
      less s = by_test (same_source source s) (λ k. rw k (omega (arith, sizes-least once (once_each rows) clean same))) (λ k. rw k (omega arith))

      copied : (s : Source) → SameBag (only source (once_each rows) s) (only source once s)
      copied s = by_test (same_source source s) (λ k. rw k (same-sym once (once_each rows) same)) (λ k. rw k (same-refl []))

      alike : (s : Source) → SameBag (can.can.tables s ++ only source (once_each rows) s) (can.can.tables s ++ only source once s)
      alike s =
          same-append (can.can.tables s) (can.can.tables s) (only source (once_each rows) s) (only source once s) (same-refl (can.can.tables s)) (copied s)

      stored : (s : Source) → AreStored (only source (once_each rows) s) → AreStored (only source once s)
      stored s all = by_test (same_source source s) (λ k. rw k (stored-merged once (once_each rows) clean same (rw k at all))) (λ k. rw k tt)

  -- where the copies were taken in, they are
  pub copies-filled : (w : ViewState) → Gains (only source once) v w → Fills (only source (once_each rows)) v w
  copies-filled w gains =
      fills-same v w (only source once) (only source (once_each rows)) (record { at = alike }) copies-wide (record {
        query = gains.query;
        widths = gains.widths;
        epoch = gains.epoch;
        built = gains.built;
        stands = λ tables stands bags wide. gains.stands tables stands wide (bags-changed tables (only source once) bags copies-bags);
      })
    where
      copies-bags : AreBags (only source once)
      copies-bags = only-have IsBag source once (record { at = λ r. rw (same.at r) ((once_each-bag rows).at r) }) (once_each-bag [])

      alike : (s : Source) → SameBag (only source once s) (only source (once_each rows) s)
      alike s = by_test (same_source source s) (λ k. rw k same) (λ k. rw k (same-refl []))

-- ---- Rows of several tables
pub bags_at-bags : (tables : List StoredSource) → AreBags (bags_at tables)
bags_at-bags [] s = once_each-bag []
bags_at-bags (t ∷ tables) s = bag-append (only t.source (once_each (all_rows t.rows)) s) (bags_at tables s) (only-bags t.source (all_rows t.rows) s) (bags_at-bags tables s)
